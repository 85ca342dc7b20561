-- Facts that a law states as a pair, as the clauses of a function have them, by name.

pub best-marked : {A B : Type 0} → A × B → record { best : A; marked : B }
best-marked p = record { best = p.0; marked = p.1 }

pub position_in_bounds-best : {A B : Type 0} → A × B → record { position_in_bounds : A; best : B }
position_in_bounds-best p = record { position_in_bounds = p.0; best = p.1 }

pub value-answer_after : {A B : Type 0} → A × B → record { value : A; answer_after : B }
value-answer_after p = record { value = p.0; answer_after = p.1 }

pub value-numbers_after : {A B : Type 0} → A × B → record { value : A; numbers_after : B }
value-numbers_after p = record { value = p.0; numbers_after = p.1 }

pub value-output_after : {A B : Type 0} → A × B → record { value : A; output_after : B }
value-output_after p = record { value = p.0; output_after = p.1 }

pub value-table_after : {A B : Type 0} → A × B → record { value : A; table_after : B }
value-table_after p = record { value = p.0; table_after = p.1 }
