-- `contents::first` meets its contract: it reads the byte that begins the bundle.
use Rattle.std.proofs.Common.{arith}
use Rattle.contents.specs.Contents.{front-inside, first-is}
use Rattle.contents.proofs.first.Goals as goal

pub bounds-bundle-0 : goal.bounds-bundle-0
bounds-bundle-0 c = let inside = front-inside c.requires in omega (arith, inside.0, inside.1)

pub returns : goal.returns
returns c = first-is c.requires
