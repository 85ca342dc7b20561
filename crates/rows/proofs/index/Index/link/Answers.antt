-- `rows::index::Index::link` meets its contract.
use Rattle.std.proofs.Common.{arith, ap, ◌∙◌, ℕ, ◌%◌}
use Rattle.rows.specs.Index.{key, chain_count}
use Rattle.rows.specs.IndexLaws.{index_link}
use Rattle.rows.proofs.index.Index.link.Goals as goal

pub returns : goal.returns
returns c =
    index_link _ _ _ _ (omega (arith, c.requires.0)) (omega arith)
    (ap (λ (k : ℕ). k % chain_count) (c.key_of-chain.ensures ∙ ap key c.counts_of.ensures.0)) c.requires.2
