-- What a layer keeps of the recogniser below, however it sees that one.
use Rattle.std.specs.Prelude.{◌≡◌}
use Rattle.monoid.specs.Meaning.{Meaning}
use Rattle.monoid.specs.Laws.{Shaped, Lawful}

-- n has the elements, the unit and the images of m, and the laws of m hold of n too
pub record Keeps {E : Type 0} (n m : Meaning E) : Type 0 where
  pub sound : n.sound ≡ m.sound
  pub unit : n.unit ≡ m.unit
  pub image : n.image ≡ m.image
  pub shaped : Shaped m → Shaped n
  pub lawful : Lawful m → Lawful n
