-- Pushing on a pile.
use Rattle.std.proofs.Common.{◌≡◌, ℕ, zero, suc, ◌+◌, ◌<◌, ◌≤◌, List, ◌∷◌, length, get_or, set, refl, ap, add-one, arith, get_or-set_other, get_or-set_same}
use Rattle.unused.specs.Piles.{backwards}

-- a write past those that count
backwards-set : (places : List ℕ) (d i n : ℕ) → n ≤ d → backwards (set places d i) n ≡ backwards places n
backwards-set places d i zero h = refl
backwards-set places d i (suc n) h =
    let a : get_or (set places d i) n 0 ≡ get_or places n 0 = get_or-set_other places d n i 0 (λ e. omega arith) in
    let b = backwards-set places d i n (omega arith) in
    cc

pub backwards_push : (places : List ℕ) (d i : ℕ) → d < length places → backwards (set places d i) (d + 1) ≡ i ∷ backwards places d
backwards_push places d i h =
    let a : get_or (set places d i) d 0 ≡ i = get_or-set_same places d i 0 h in
    let b = backwards-set places d i d (omega arith) in
    let c : backwards (set places d i) (d + 1) ≡ get_or (set places d i) d 0 ∷ backwards (set places d i) d = ap (backwards (set places d i)) (add-one d) in
    cc

pub backwards_long : (places : List ℕ) (n : ℕ) → length (backwards places n) ≡ n
backwards_long places zero = refl
backwards_long places (suc n) = ap suc (backwards_long places n)
