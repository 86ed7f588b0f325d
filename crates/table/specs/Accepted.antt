-- What holds of data that the check accepts, and that it accepts the trivial data.
use Rattle.std.specs.Prelude.{◌≡◌, ℕ, ◌<◌, ◌≤◌, true, ◌&&◌, ◌==◌, nat_le, slice_index, Ok, refl}
use Rattle.std.proofs.lemmas.Bool.{leb-true, ltb-true, eqb-true, and_parts}
use Rattle.checks.specs.declared.verdict.Flaw.TheVariants.{SizeOutOfLimits, EntryTooLarge, UnitNotNeutral, NotAssociative}
use Rattle.checks.specs.Verdicts.{accepted, or_else, ask}
use Rattle.checks.specs.Below.{all_below}
use Rattle.checks.proofs.Asking.{asked}
use Rattle.checks.proofs.Below.{all_at}
use Rattle.table.specs.declared.data.TableData.{TableData}
use Rattle.table.specs.Tables.{times, trivial_data}
use Rattle.table.specs.Checks.{size_fits, product_fits, row_fits, products_fit, image_fits, images_fit, members_fit, entries_fit, neutral_at, neutral, associates, associates_at, associates_from, associative, verdict_of}

pub record Good (d : TableData) : Type 0 where
  pub some : 1 ≤ d.size
  pub few : d.size ≤ 8
  pub closed : (x y : ℕ) → x < d.size → y < d.size → times d x y < d.size
  pub imaged : (p : ℕ) → p < 8 → slice_index d.images p < d.size
  pub left : (x : ℕ) → x < d.size → times d 0 x ≡ x
  pub right : (x : ℕ) → x < d.size → times d x 0 ≡ x
  pub assoc : (x y z : ℕ) → x < d.size → y < d.size → z < d.size → times d (times d x y) z ≡ times d x (times d y z)

pub good : (d : TableData) → accepted (verdict_of d) ≡ true → Good d
good d e =
    let n = d.size in
    let fourth = ask (associative d) NotAssociative in
    let third = or_else (neutral d) UnitNotNeutral fourth in
    let second = or_else (entries_fit d) EntryTooLarge third in
    let size = asked (size_fits d) SizeOutOfLimits second e in
    let entries = asked (entries_fit d) EntryTooLarge third size.1 in
    let unit = asked (neutral d) UnitNotNeutral fourth entries.1 in
    let triples = asked (associative d) NotAssociative (Ok tt) unit.1 in
    let limits = and_parts (nat_le 1 n) (nat_le n 8) size.0 in
    let products = and_parts (products_fit d) (images_fit d && members_fit d) entries.0 in
    let images = and_parts (images_fit d) (members_fit d) products.1 in
    let sides : (x : ℕ) → x < n → ((times d 0 x == x) ≡ true) × ((times d x 0 == x) ≡ true) = λ x h. and_parts (times d 0 x == x) (times d x 0 == x) (all_at n (neutral_at d) x unit.0 h) in
    record {
      some = leb-true 1 n limits.0;
      few = leb-true n 8 limits.1;
      closed = λ x y hx hy. ltb-true (times d x y) n (all_at n (product_fits d x) y (all_at n (row_fits d) x products.0 hx) hy);
      imaged = λ p h. ltb-true (slice_index d.images p) n (all_at 8 (image_fits d) p images.0 h);
      left = λ x h. eqb-true (times d 0 x) x (sides x h).0;
      right = λ x h. eqb-true (times d x 0) x (sides x h).1;
      assoc = λ x y z hx hy hz. eqb-true (times d (times d x y) z) (times d x (times d y z)) (all_at n (associates d x y) z (all_at n (associates_at d x) y (all_at n (associates_from d) x triples.0 hx) hy) hz);
    }

pub trivial_accepted : accepted (verdict_of trivial_data) ≡ true
unfolding all_below
trivial_accepted = refl
