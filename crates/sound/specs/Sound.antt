-- What is known of a sound master and a sound path.
use Rattle.std.specs.Prelude.{◌≤◌}
use Rattle.spec.specs.declared.Path.{Path}
use Rattle.spec.specs.declared.Shape.{Shape}

-- a master has records, no more than 4,095; each begins with five synonym words, and has no more than 557 words
pub record SoundShape (s : Shape) : Type 0 where
  pub some : 1 ≤ s.cap
  pub few : s.cap ≤ 4095
  pub front : 5 ≤ s.front
  pub width : 5 ≤ s.width
  pub narrow : s.width ≤ 557

-- a path leads to such a master, and the words of a head and of a pair of links stand at places that one word numbers
pub record SoundPlaces (p : Path) : Type 0 where
  pub to : SoundShape p.to.shape
  pub head : p.head ≤ 65000
  pub links : p.links ≤ 65000

-- the words of a head and of a pair of links stand at places that one word numbers, whatever the master is
pub record Placed (p : Path) : Type 0 where
  pub head : p.head ≤ 65000
  pub links : p.links ≤ 65000
