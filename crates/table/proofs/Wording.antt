-- The questions that a table's data are asked, in words, and what each verdict therefore says.
use Rattle.std.proofs.Common.{◌≡◌, ◌≢◌, ℕ, ◌<◌, ◌≤◌, true, false, get_or, Ok, ◌⊎◌, sym, ◌∙◌, subst, ⊎_elim, arith}
use Rattle.std.proofs.lemmas.Bool.{false≢true}
use Rattle.rows.specs.declared.kind.Kind.{Kind}
use Rattle.rows.specs.Places.{place}
use Rattle.rows.proofs.Places.{place_below, kind_there}
use Rattle.checks.specs.declared.verdict.Flaw.TheVariants.{SizeOutOfLimits, EntryTooLarge, UnitNotNeutral, NotAssociative}
use Rattle.checks.specs.Verdicts.{Verdict, number_of, or_else, ask}
use Rattle.checks.proofs.Wording.{Asks, asks_below, asks_within, asks_same, asks_not, asks_both, asks_either, asks_each, in_words, other_number, said_here, said_later, said_last}
use Rattle.table.specs.declared.data.TableData.{TableData}
use Rattle.table.specs.Tables.{times, image_in, lit_in}
use Rattle.table.specs.Checks.{size_fits, product_fits, row_fits, products_fit, image_fits, images_fit, member_fits, members_fit, entries_fit, neutral_at, neutral, associates, associates_at, associates_from, associative, verdict_of}
use Rattle.table.specs.Verdicts.{SizeFits, SizeUnfit, AllElements, TooLarge, product, image, member, Neutral, Changed, on_left, on_right, Associative, Unequal, Says}

module _ (d : TableData) where
  size_asks : Asks (size_fits d) (SizeFits d) (SizeUnfit d)
  size_asks =
      in_words
      (asks_both (asks_within 1 d.size) (asks_within d.size 8))
      (λ fit. record { some = fit.0; few = fit.1 })
      (λ out. out)
      (λ fit out. ⊎_elim (λ none. omega (arith, fit.some)) (λ more. omega (arith, fit.few)) out)

  products_ask : Asks (products_fit d) ((x : ℕ) → x < d.size → (y : ℕ) → y < d.size → times d x y < d.size) ((x : ℕ) × (x < d.size) × ((y : ℕ) × (y < d.size) × (d.size ≤ times d x y)))
  products_ask = asks_each d.size (row_fits d) (λ x hx. asks_each d.size (product_fits d x) (λ y hy. asks_below (times d x y) d.size))

  images_ask : Asks (images_fit d) ((k : Kind) → image_in d k < d.size) ((k : Kind) × (d.size ≤ image_in d k))
  images_ask =
      in_words
      (asks_each 8 (image_fits d) (λ p h. asks_below (get_or d.images p 0) d.size))
      (λ fit k. fit (place k) (place_below k))
      (λ out. let there = kind_there out.0 out.1 in (there.0, subst (λ p. d.size ≤ get_or d.images p 0) (sym there.1) out.2))
      (λ fit out. let below = fit out.0 in let past = out.1 in omega arith)

  members_ask : Asks (members_fit d) ((x : ℕ) → x < 8 → (x < d.size) ⊎ (lit_in d x ≡ false)) ((x : ℕ) × (x < 8) × ((d.size ≤ x) × (lit_in d x ≡ true)))
  members_ask = asks_each 8 (member_fits d) (λ x h. asks_either (asks_below x d.size) (asks_not (lit_in d x)))

  entries_apart : AllElements d → TooLarge d → ⊥
  entries_apart all (product x y hx hy past) = let below = all.product x y hx hy in omega arith
  entries_apart all (image k past) = let below = all.image k in omega arith
  entries_apart all (member x h e past) = let below = all.member x h e in omega arith

  entries_ask : Asks (entries_fit d) (AllElements d) (TooLarge d)
  entries_ask =
      in_words
      (asks_both products_ask (asks_both images_ask members_ask))
      (λ fit. record {
        product = λ x y hx hy. fit.0 x hx y hy;
        image = fit.1.0;
        member = λ x h e. ⊎_elim (λ below. below) (λ unlit. absurd (false≢true (sym unlit ∙ e))) (fit.1.1 x h);
      })
      (λ out. ⊎_elim (λ p. product p.0 p.2.0 p.1 p.2.1 p.2.2) (λ others. ⊎_elim (λ i. image i.0 i.1) (λ m. member m.0 m.1 m.2.1 m.2.0) others) out)
      entries_apart

  neutral_apart : Neutral d → Changed d → ⊥
  neutral_apart all (on_left x h differs) = differs (all.on_left x h)
  neutral_apart all (on_right x h differs) = differs (all.on_right x h)

  neutral_asks : Asks (neutral d) (Neutral d) (Changed d)
  neutral_asks =
      in_words
      (asks_each d.size (neutral_at d) (λ x h. asks_both (asks_same (times d 0 x) x) (asks_same (times d x 0) x)))
      (λ fit. record { on_left = λ x h. (fit x h).0; on_right = λ x h. (fit x h).1 })
      (λ out. ⊎_elim (λ differs. on_left out.0 out.1 differs) (λ differs. on_right out.0 out.1 differs) out.2)
      neutral_apart

  associative_asks : Asks (associative d) (Associative d) (Unequal d)
  associative_asks =
      in_words
      (asks_each d.size (associates_from d) (λ x hx. asks_each d.size (associates_at d x) (λ y hy. asks_each d.size (associates d x y) (λ z hz. asks_same (times d (times d x y) z) (times d x (times d y z))))))
      (λ every x y z hx hy hz. every x hx y hy z hz)
      (λ out. record { x = out.0; y = out.2.0; z = out.2.2.0; x_below = out.1; y_below = out.2.1; z_below = out.2.2.1; differ = out.2.2.2 })
      (λ every some. some.differ (every some.x some.y some.z some.x_below some.y_below some.z_below))

  pub says : (v : Verdict) → v ≡ verdict_of d → Says d v
  says v is =
      let fourth = ask (associative d) NotAssociative in
      let third = or_else (neutral d) UnitNotNeutral fourth in
      let second = or_else (entries_fit d) EntryTooLarge third in
      let not_fourth : (n : ℕ) → 24 ≢ n → 0 ≢ n → number_of fourth ≢ n = λ n a z. other_number (associative d) NotAssociative (Ok tt) n a z in
      let not_third : (n : ℕ) → 23 ≢ n → 24 ≢ n → 0 ≢ n → number_of third ≢ n = λ n b a z. other_number (neutral d) UnitNotNeutral fourth n b (not_fourth n a z) in
      subst (Says d) (sym is) (record {
        accepted =
            said_later (size_fits d) SizeOutOfLimits second 0 (λ e. omega arith) size_asks
            (λ _. said_later (entries_fit d) EntryTooLarge third 0 (λ e. omega arith) entries_ask
            (λ _. said_later (neutral d) UnitNotNeutral fourth 0 (λ e. omega arith) neutral_asks
            (λ _. said_last (associative d) NotAssociative associative_asks)));
        size_out_of_limits = said_here (size_fits d) SizeOutOfLimits second (other_number (entries_fit d) EntryTooLarge third 21 (λ e. omega arith) (not_third 21 (λ e. omega arith) (λ e. omega arith) (λ e. omega arith))) size_asks;
        entry_too_large =
            said_later (size_fits d) SizeOutOfLimits second 22 (λ e. omega arith) size_asks
            (λ _. said_here (entries_fit d) EntryTooLarge third (not_third 22 (λ e. omega arith) (λ e. omega arith) (λ e. omega arith)) entries_ask);
        unit_not_neutral =
            said_later (size_fits d) SizeOutOfLimits second 23 (λ e. omega arith) size_asks
            (λ _. said_later (entries_fit d) EntryTooLarge third 23 (λ e. omega arith) entries_ask
            (λ _. said_here (neutral d) UnitNotNeutral fourth (not_fourth 23 (λ e. omega arith) (λ e. omega arith)) neutral_asks));
        not_associative =
            said_later (size_fits d) SizeOutOfLimits second 24 (λ e. omega arith) size_asks
            (λ _. said_later (entries_fit d) EntryTooLarge third 24 (λ e. omega arith) entries_ask
            (λ _. said_later (neutral d) UnitNotNeutral fourth 24 (λ e. omega arith) neutral_asks
            (λ _. said_here (associative d) NotAssociative (Ok tt) (λ e. omega arith) associative_asks)));
      })
