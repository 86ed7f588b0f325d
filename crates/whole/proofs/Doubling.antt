-- Copying a row into an unused cell, when the rows before it are copied.
use Rattle.std.proofs.Common.{◌≡◌, ℕ, ◌+◌, ◌<◌, ◌≤◌, max, ◌≢◌, List, ◌∷◌, length, set, Some, None, Option, sym, refl, ap, ◌∙◌, subst, arith}
use Rattle.std.specs.List.{slice_get}
use Rattle.cells.specs.declared.cell.Cell.{Cell}
use Rattle.cells.specs.Trees.{Tree, node, link, height, size, count, here, cell, At}
use Rattle.cells.proofs.Lookup.{some_one, none-some, nth_within, nth_set_same, nth_set_other}
use Rattle.cells.proofs.Frame.{here_same, stands_kept}
use Rattle.unused.specs.declared.list.Unused.{Unused}
use Rattle.unused.specs.declared.list.Taken.{Taken}
use Rattle.unused.specs.declared.pile.Pile.{Pile}
use Rattle.unused.specs.Listed.{times, Takes}
use Rattle.unused.specs.Piles.{tops, above, Pushes}
use Rattle.unused.specs.Freeing.{sum, roots, Stood}
use Rattle.unused.proofs.Threading.{listed_kept}
use Rattle.unused.proofs.Emptying.{stood_kept}
use Rattle.cells.specs.declared.links.Links.{Links}
use Rattle.whole.specs.Ranks.{Ranked}
use Rattle.whole.specs.Copying.{Both, TakesSides, OpensRanked, relinked, WritesCopy}
use Rattle.whole.specs.CopyRuns.{Sames, onto, wholes, Copying, CopiesNext}
use Rattle.whole.proofs.Wholes.{Row, row, Split, split, same_links, same_sizes, wholes_long, roots-onto, roots_long, sum-onto, stood_onto}

module _ {E : Type 0} (x y : List (Cell E)) (first : Option ℕ) (c : Cell E) (s : Links) where
  pub write_no_cell : (out : Option Taken) → Takes x first None → WritesCopy x y first c s out
  write_no_cell out take i is u = absurd (none-some (take.made i is u).1)

  module _ (taken : Taken) (take : Takes x first (Some taken)) where
    pub write_done : y ≡ set x taken.place (relinked c s) → WritesCopy x y first c s (Some taken)
    write_done ey i is u =
        let a = take.made i is u in
        let e : taken.place ≡ i = ap {A = Taken} (λ v. v.place) (some_one a.1) in
        record { next = a.0; given = a.1; listed = a.2; within = nth_within x i u.0 u.2; written = ey ∙ ap (λ (v : ℕ). set x v (relinked c s)) e }

module _ {E : Type 0} (x y : List (Cell E)) (p p₁ p₃ : Pile) (first root : Option ℕ) (n : ℕ) where
  pub next_no_cell : (out : Option Unused) → OpensRanked x root n None → CopiesNext x y p p₃ first root n out
  next_no_cell out opens t d cs i is e h w =
      let o = opens t w.rooted (omega arith) h in
      let found = row x t d o.0 w.rooted.stands (subst (λ (v : ℕ). Ranked t v o.0) e o.1) in
      absurd (none-some (o.2 ∙ found.stands))

  module _ (c : Cell E) (opens : OpensRanked x root n (Some c)) where
    -- the row to copy, its cell, and the copies of its sides
    pub record Opening (t : Tree E) (d : ℕ) (cs : List (Tree E)) : Type 0 where
      pub j : ℕ
      pub found : Row x t d j
      pub is : c ≡ cell found.l found.k found.p found.r
      pub sr : Split found.r (onto found.l found.rest) cs
      pub sl : Split found.l found.rest sr.rest
      pub piles : tops p ≡ above (link sr.first) (above (link sl.first) (roots sl.rest))
      pub both_l : Both c.left (link sl.first)
      pub both_r : Both c.right (link sr.first)

    opening : (t : Tree E) (d : ℕ) (cs : List (Tree E)) (is : List ℕ) → n ≡ d + 1 → n ≤ size t → Copying x p first root t d cs is → Opening t d cs
    opening t d cs is e h w =
        let o = opens t w.rooted (omega arith) h in
        let found = row x t d o.0 w.rooted.stands (subst (λ (v : ℕ). Ranked t v o.0) e o.1) in
        let ec : c ≡ cell found.l found.k found.p found.r = some_one (o.2 ∙ found.stands) in
        let sr = split found.r (onto found.l found.rest) cs (subst (λ (v : List (Tree E)). Sames v cs) found.before w.same) in
        let sl = split found.l found.rest sr.rest sr.sames in
        record {
          j = o.0;
          found = found;
          is = ec;
          sr = sr;
          sl = sl;
          piles = w.piled ∙ ap roots sr.are ∙ roots-onto sr.first sr.rest ∙ ap (above (link sr.first)) (ap roots sl.are ∙ roots-onto sl.first sl.rest);
          both_l = subst (λ (v : Option ℕ). Both v (link sl.first)) (sym (ap (λ (v : Cell E). v.left) ec)) (same_links found.l sl.first sl.same);
          both_r = subst (λ (v : Option ℕ). Both v (link sr.first)) (sym (ap (λ (v : Cell E). v.right) ec)) (same_links found.r sr.first sr.same);
        }

    pub next_no_sides : (out : Option Unused) → TakesSides p p₁ c.left c.right None → CopiesNext x y p p₃ first root n out
    next_no_sides out take t d cs i is e h w =
        let o = opening t d cs (i ∷ is) e h w in
        let f = (take (link o.sl.first) (link o.sr.first) (roots o.sl.rest) o.both_l o.both_r o.piles).0 in
        let z : ◌≡◌ {A = ℕ} 0 1 = cc in absurd (omega arith)

    module _ (s : Links) (take : TakesSides p p₁ c.left c.right (Some s)) where
      pub next_no_taken : (out : Option Unused) → WritesCopy x y first c s None → CopiesNext x y p p₃ first root n out
      next_no_taken out write t d cs i is e h w =
          let f = (write i is w.listed).given in
          let z : ◌≡◌ {A = ℕ} 0 1 = cc in absurd (omega arith)

      module _ (taken : Taken) (write : WritesCopy x y first c s (Some taken)) where
        fits : (t : Tree E) (d : ℕ) (cs : List (Tree E)) (is : List ℕ) → n ≡ d + 1 → Copying x p first root t d cs is → Opening t d cs → length (above (Some taken.place) (tops p₁)) ≤ 24
        fits t d cs is e w o =
            let f = (take (link o.sl.first) (link o.sr.first) (roots o.sl.rest) o.both_l o.both_r o.piles).1 in
            let lf : length (tops p₁) ≡ length (roots o.sl.rest) = ap length f in
            let a = roots_long o.found.rest o.sl.rest o.sl.sames in
            let b = wholes_long t (d + 1) in
            let g : length (wholes (d + 1) t) ≡ 1 + length o.found.rest = ap (λ (v : List (Tree E)). length v) o.found.after ∙ omega arith in
            let lo = w.rooted.low in
            omega arith

        pub next_no_push : (out : Option Unused) → Pushes p₁ p₃ (Some taken.place) None → CopiesNext x y p p₃ first root n out
        next_no_push out push t d cs i is e h w =
            let o = opening t d cs (i ∷ is) e h w in
            let f = (push.made (fits t d cs (i ∷ is) e w o)).0 in
            let z : ◌≡◌ {A = ℕ} 0 1 = cc in absurd (omega arith)

        pub next_done : Pushes p₁ p₃ (Some taken.place) (Some tt) → CopiesNext x y p p₃ first root n (Some taken.rest)
        next_done push t d cs i is e h w =
            let o = opening t d cs (i ∷ is) e h w in
            let found = o.found in
            let l : Tree E = o.sl.first in
            let r : Tree E = o.sr.first in
            let rest : List (Tree E) = o.sl.rest in
            let tk = take (link l) (link r) (roots rest) o.both_l o.both_r o.piles in
            let wr = write i is w.listed in
            let et : taken ≡ record { place = i; rest = record { first = wr.next } } = some_one wr.given in
            let ei : taken.place ≡ i = ap {A = Taken} (λ v. v.place) et in
            let en : taken.rest ≡ record { first = wr.next } = ap {A = Taken} (λ v. v.rest) et in
            let pu = (push.made (fits t d cs (i ∷ is) e w o)).1 in
            let es : s ≡ record { left = link l; right = link r } = some_one tk.0 in
            let sl = same_sizes found.l l o.sl.same in
            let sr = same_sizes found.r r o.sr.same in
            let hh : max (height found.l) (height found.r) + 1 ≡ max (height l) (height r) + 1 = omega arith in
            let ss : size found.l + size found.r + 1 ≡ size l + size r + 1 = omega arith in
            let new : Cell E = cell l found.k found.p r in
            let ec : relinked c s ≡ new = ap (λ (v : Cell E). relinked v s) o.is ∙ ap (λ (v : Links). relinked (cell found.l found.k found.p found.r) v) es ∙ cc in
            let ey : y ≡ set x i new = wr.written ∙ ap (λ (v : Cell E). set x i v) ec in
            let here_is : At y i new = ap (λ (v : List (Cell E)). slice_get v i) ey ∙ nth_set_same x i new wr.within in
            let others : (q : ℕ) → q ≢ i → slice_get y q ≡ slice_get x q = (λ q ne. ap (λ (v : List (Cell E)). slice_get v q) ey ∙ nth_set_other x i q new ne) in
            let one = here_same i in
            let ai = w.apart i in
            let sc : (q : ℕ) → sum (count q) cs ≡ count q r + (count q l + sum (count q) rest) = (λ q. ap (λ (v : List (Tree E)). sum (count q) v) o.sr.are ∙ sum-onto q r o.sr.rest ∙ ap (λ (v : ℕ). count q r + v) (ap (λ (v : List (Tree E)). sum (count q) v) o.sl.are ∙ sum-onto q l rest)) in
            let kt : (q : ℕ) → 0 < count q t → slice_get y q ≡ slice_get x q = (λ q lt. others q (λ eq. let f : count q t ≡ count i t = ap (λ (v : ℕ). count v t) eq in omega arith)) in
            let kc : (q : ℕ) → 0 < sum (count q) cs → slice_get y q ≡ slice_get x q = (λ q lt. others q (λ eq. let f : sum (count q) cs ≡ sum (count i) cs = ap (λ (v : ℕ). sum (count v) cs) eq in omega arith)) in
            let ku : (q : ℕ) → 0 < times q is → slice_get y q ≡ slice_get x q = (λ q lt. others q (λ eq. let f : times q is ≡ times i is = ap (λ (v : ℕ). times v is) eq in omega arith)) in
            let st1 = stood_onto x r o.sr.rest (subst (λ (v : List (Tree E)). Stood x v) o.sr.are w.stood) in
            let st2 = stood_onto x l rest (subst (λ (v : List (Tree E)). Stood x v) o.sl.are st1.1) in
            record {
              next = wr.next;
              copies = node l i found.k found.p r ∷ rest;
              given = ap Some en;
              copying = record {
                rooted = record { stands = stands_kept x y t kt w.rooted.stands; top = w.rooted.top; low = w.rooted.low };
                same = subst (λ (v : List (Tree E)). Sames v (node l i found.k found.p r ∷ rest)) (sym (ap (λ (v : ℕ). wholes v t) e ∙ found.after)) ((o.sl.same, refl, refl, o.sr.same), o.sl.sames);
                piled = pu ∙ ap (λ (v : ℕ). v ∷ tops p₁) ei ∙ ap (λ (v : List ℕ). i ∷ v) tk.1;
                stood = ((here_is, stands_kept x y l (λ q lt. let f = sc q in kc q (omega arith)) st2.0, stands_kept x y r (λ q lt. let f = sc q in kc q (omega arith)) st1.0), stood_kept x y rest (λ q lt. let f = sc q in kc q (omega arith)) st2.1);
                listed = listed_kept x y wr.next is ku wr.listed;
                apart = λ q. let a = w.apart q in let f = sc q in omega arith;
              };
              counts = λ q. let f = sc q in omega arith;
              kept = λ q z. others q (λ eq. let f : here q i ≡ here i i = ap (λ (v : ℕ). here v i) eq in omega arith);
            }
