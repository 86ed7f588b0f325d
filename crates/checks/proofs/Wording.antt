-- What questions ask in words, and what the first that is answered no then says: that it is no, and that those before it are yes.
use Rattle.std.proofs.Common.{◌≡◌, ◌≢◌, ◌↔◌, ℕ, ◌<◌, ◌≤◌, Bool, true, false, not, cond, ◌&&◌, ◌||◌, ◌==◌, ltb, leb, Err, ◌⊎◌, inl, inr, sym, ap, ◌∙◌, ⊎_elim, arith}
use Rattle.std.proofs.lemmas.Bool.{false≢true, eqb-true, eqb-false, ltb-true, ltb-false, leb-true, leb-false, and_parts, cond-true, cond-false, not-true, not-false, cases_Bool}
use Rattle.checks.specs.declared.verdict.Flaw.{Flaw}
use Rattle.checks.specs.declared.verdict.Flaw.TheVariants.{SizeOutOfLimits, EntryTooLarge, UnitNotNeutral, NotAssociative}
use Rattle.checks.specs.Verdicts.{Verdict, number_of, or_else, ask}
use Rattle.checks.specs.Below.{all_below}
use Rattle.checks.proofs.Below.{all_at, all_false}

-- a question in words: what holds where the answer is yes, and what where it is no; not both
pub record Asks (answer : Bool) (Yes No : Type 0) : Type 0 where
  pub says_yes : answer ≡ true → Yes
  pub says_no : answer ≡ false → No
  pub not_both : Yes → No → ⊥

pub asks_test : (b : Bool) → Asks b (b ≡ true) (b ≡ false)
asks_test b = record { says_yes = λ e. e; says_no = λ e. e; not_both = λ e f. false≢true (sym f ∙ e) }

pub asks_below : (x y : ℕ) → Asks (ltb x y) (x < y) (y ≤ x)
asks_below x y = record { says_yes = ltb-true x y; says_no = ltb-false x y; not_both = λ h k. omega arith }

pub asks_within : (x y : ℕ) → Asks (leb x y) (x ≤ y) (y < x)
asks_within x y = record { says_yes = leb-true x y; says_no = leb-false x y; not_both = λ h k. omega arith }

pub asks_same : (x y : ℕ) → Asks (x == y) (x ≡ y) (x ≢ y)
asks_same x y = record { says_yes = eqb-true x y; says_no = eqb-false x y; not_both = λ e f. f e }

pub asks_not : (b : Bool) → Asks (not b) (b ≡ false) (b ≡ true)
asks_not b = record { says_yes = not-true b; says_no = not-false b; not_both = λ e f. false≢true (sym e ∙ f) }

-- one question or another, by the answer to a first one
pub asks_where : {c a b : Bool} {C D Y N Z M : Type 0} → Asks c C D → Asks a Y N → Asks b Z M → Asks (cond c a b) ((C → Y) × (D → Z)) ((C × N) ⊎ (D × M))
asks_where {c} {a} {b} which first second = record {
  says_yes = λ e. (
    (λ y. ⊎_elim (λ t. first.says_yes (sym (cond-true c a b t) ∙ e)) (λ f. absurd (which.not_both y (which.says_no f))) (cases_Bool c)),
    (λ n. ⊎_elim (λ t. absurd (which.not_both (which.says_yes t) n)) (λ f. second.says_yes (sym (cond-false c a b f) ∙ e)) (cases_Bool c)),
  );
  says_no = λ e. ⊎_elim (λ t. inl (which.says_yes t, first.says_no (sym (cond-true c a b t) ∙ e))) (λ f. inr (which.says_no f, second.says_no (sym (cond-false c a b f) ∙ e))) (cases_Bool c);
  not_both = λ every one. ⊎_elim (λ n. first.not_both (every.0 n.0) n.1) (λ m. second.not_both (every.1 m.0) m.1) one;
}

-- either of two questions to be answered yes
pub asks_either : {a b : Bool} {Y N Z M : Type 0} → Asks a Y N → Asks b Z M → Asks (a || b) (Y ⊎ Z) (N × M)
asks_either {a} {b} first second = record {
  says_yes = λ e. ⊎_elim (λ t. inl (first.says_yes t)) (λ f. inr (second.says_yes (sym (ap (λ c. c || b) f) ∙ e))) (cases_Bool a);
  says_no = λ e. ⊎_elim (λ t. absurd (false≢true (sym e ∙ ap (λ c. c || b) t))) (λ f. (first.says_no f, second.says_no (sym (ap (λ c. c || b) f) ∙ e))) (cases_Bool a);
  not_both = λ one both. ⊎_elim (λ y. first.not_both y both.0) (λ z. second.not_both z both.1) one;
}

-- two questions, both to be answered yes
pub asks_both : {a b : Bool} {Y N Z M : Type 0} → Asks a Y N → Asks b Z M → Asks (a && b) (Y × Z) (N ⊎ M)
asks_both {a} {b} first second = record {
  says_yes = λ e. let parts = and_parts a b e in (first.says_yes parts.0, second.says_yes parts.1);
  says_no = λ e. ⊎_elim (λ t. inr (second.says_no (sym (ap (λ c. c && b) t) ∙ e))) (λ f. inl (first.says_no f)) (cases_Bool a);
  not_both = λ both one. ⊎_elim (λ n. first.not_both both.0 n) (λ m. second.not_both both.1 m) one;
}

-- a question asked of each number below a bound
pub asks_each : (n : ℕ) (p : ℕ → Bool) {Y N : ℕ → Type 0} → ((i : ℕ) → i < n → Asks (p i) (Y i) (N i)) → Asks (all_below n p) ((i : ℕ) → i < n → Y i) ((i : ℕ) × (i < n) × N i)
asks_each n p each = record {
  says_yes = λ e i h. (each i h).says_yes (all_at n p i e h);
  says_no = λ e. let found = all_false n p e in (found.0, found.1, (each found.0 found.1).says_no found.2);
  not_both = λ every found. (each found.0 found.1).not_both (every found.0 found.1) found.2;
}

-- the same question in other words
pub in_words : {a : Bool} {Y N Z M : Type 0} → Asks a Y N → (Y → Z) → (N → M) → (Z → M → ⊥) → Asks a Z M
in_words asks yes_words no_words apart = record { says_yes = λ e. yes_words (asks.says_yes e); says_no = λ e. no_words (asks.says_no e); not_both = apart }

-- a flaw has a number of its own
some_number : (flaw : Flaw) → number_of (Err flaw) ≡ 0 → ⊥
some_number SizeOutOfLimits e = omega arith
some_number EntryTooLarge e = omega arith
some_number UnitNotNeutral e = omega arith
some_number NotAssociative e = omega arith

-- a number that is that of no question is not answered
pub other_number : (answer : Bool) (flaw : Flaw) (rest : Verdict) (n : ℕ) → number_of (Err flaw) ≢ n → number_of rest ≢ n → number_of (or_else answer flaw rest) ≢ n
other_number true flaw rest n here later = later
other_number false flaw rest n here later = here

module _ {Yes No : Type 0} (answer : Bool) (flaw : Flaw) where
  -- its flaw is the verdict exactly where it is answered no, if no later question has its number
  pub said_here : (rest : Verdict) → (number_of rest ≢ number_of (Err flaw)) → Asks answer Yes No → (number_of (or_else answer flaw rest) ≡ number_of (Err flaw)) ↔ No
  said_here rest other asks = (
    (λ e. ⊎_elim (λ t. absurd (other (ap (λ b. number_of (or_else b flaw rest)) (sym t) ∙ e))) asks.says_no (cases_Bool answer)),
    (λ n. ⊎_elim (λ t. absurd (asks.not_both (asks.says_yes t) n)) (λ f. ap (λ b. number_of (or_else b flaw rest)) f) (cases_Bool answer)),
  )

  -- another number is the verdict exactly where it is answered yes and the later questions have that number
  pub said_later : {P : Type 0} (rest : Verdict) (n : ℕ) → (number_of (Err flaw) ≢ n) → Asks answer Yes No → (Yes → (number_of rest ≡ n) ↔ P) → (number_of (or_else answer flaw rest) ≡ n) ↔ (Yes × P)
  said_later rest n other asks later = (
    (λ e. ⊎_elim (λ t. let y = asks.says_yes t in (y, (later y).0 (ap (λ b. number_of (or_else b flaw rest)) (sym t) ∙ e))) (λ f. absurd (other (ap (λ b. number_of (or_else b flaw rest)) (sym f) ∙ e))) (cases_Bool answer)),
    (λ both. ⊎_elim (λ t. ap (λ b. number_of (or_else b flaw rest)) t ∙ (later both.0).1 both.1) (λ f. absurd (asks.not_both both.0 (asks.says_no f))) (cases_Bool answer)),
  )

  -- the last question: the data are accepted exactly where it is answered yes
  pub said_last : Asks answer Yes No → (number_of (ask answer flaw) ≡ 0) ↔ Yes
  said_last asks = (
    (λ e. ⊎_elim asks.says_yes (λ f. absurd (some_number flaw (ap (λ b. number_of (ask b flaw)) (sym f) ∙ e))) (cases_Bool answer)),
    (λ y. ⊎_elim (λ t. ap (λ b. number_of (ask b flaw)) t) (λ f. absurd (asks.not_both y (asks.says_no f))) (cases_Bool answer)),
  )
