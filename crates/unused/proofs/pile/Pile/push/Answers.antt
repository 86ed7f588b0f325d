use Rattle.std.proofs.Common.{◌<◌, length, sym, refl, ap, ◌∙◌, arith}
use Rattle.std.proofs.lemmas.Bool.{ltb-true, ltb-false}
use Rattle.unused.specs.Piles.{tops, above}
use Rattle.unused.proofs.Heaping.{backwards_push, backwards_long}
use Rattle.unused.proofs.pile.Pile.push.Goals as goal

pub returns-in_default : goal.returns-in_default
returns-in_default c =
    let p = c.args.self.now in
    let same = ap (λ v. above v (tops p)) c.in_default.is in
    let long = backwards_long p.places p.depth in
    let low = p.low in
    record { after = record { made = λ _. (refl, sym same); refused = λ h. let e = ap length same in absurd (omega arith) } }

pub returns-then-room_below : goal.returns-then-room_below
returns-then-room_below c =
    let p = c.args.self.now in
    let full = p.full in
    let low = ltb-true p.depth 24 (sym c.room_below.ensures.value ∙ c.if-room_below.true) in
    let long = backwards_long p.places p.depth in
    let same = ap (λ v. length (above v (tops p))) c.in-Some.is in
    let within : p.depth < length p.places = omega arith in
    record {
      after = record {
        made = λ _. (refl, backwards_push p.places p.depth c.in-Some.place within ∙ sym (ap (λ v. above v (tops p)) c.in-Some.is));
        refused = λ h. absurd (omega arith);
      };
    }

pub returns : goal.returns
returns c =
    let p = c.args.self.now in
    let same = ap (λ v. length (above v (tops p))) c.in-Some.is in
    let out = ltb-false p.depth 24 (sym c.room_below.ensures.value ∙ c.if-room_below.false) in
    let long = backwards_long p.places p.depth in
    record { after = record { made = λ h. absurd (omega arith); refused = λ _. (refl, refl) } }
