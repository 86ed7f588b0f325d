-- When a pause hands out a token.
use Rattle.std.specs.Prelude.{◌≡◌, ℕ, Some, None, Option}
use Rattle.plain.specs.declared.refusal.Refusal.{Refusal}
use Rattle.book.specs.declared.token.PauseToken.{PauseToken}

-- where it is accepted, one of its tag; where it is refused, none
abbrev pub Handed : ℕ → Option Refusal → Option PauseToken → Type 0
Handed tag None token = token ≡ Some (record { tag = tag })
Handed tag (Some refusal) token = token ≡ None
