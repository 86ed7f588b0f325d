-- What the records say of a sound book is the outline of its plain book.
use Rattle.std.proofs.Common.{◌≡◌, true, leb, [], ◌∷◌, map, sym, refl, ap, ◌∙◌, ap₂}
use Rattle.std.proofs.lemmas.Bool.{and_parts}
use Rattle.plain.specs.declared.call.Call.{Call}
use Rattle.plain.specs.Sheets.{across, total}
use Rattle.plain.specs.Questions.{refusal_of}
use Rattle.plain.specs.Lawful.{tagged}
use Rattle.plain.specs.Plain.{outline, refusal}
use Rattle.plain.proofs.Mapping.{tagged-map}
use Rattle.records.specs.declared.records.Records.{Records}
use Rattle.records.specs.Changes.{Rooted, sheets_of}
use Rattle.records.specs.Views.{standing, outline_of, refusal_by}
use Rattle.records.proofs.Committing.{entries_of}
use Rattle.cells.proofs.Frame.{rows_long}
use Rattle.calls.specs.Models.{Model, plain_of, rooted_of, recorded}

-- a tree is recorded with as many rows as it has
outlines : {E : Type 0} (model : Model E) → map (across (λ (x : Rooted). x.0)) (recorded model) ≡ outline (plain_of model)
outlines [] = refl
outlines (s ∷ ss) = ap₂ ◌∷◌ (ap (λ n. record { tag = s.tag; state = s.state; rows = n }) (sym (rows_long s.rows))) (outlines ss)

module _ {E : Type 0} (b : Records) (model : Model E) (said : sheets_of b ≡ recorded model) where
  -- the records and the plain book have one outline
  pub outline_same : outline_of b ≡ outline (plain_of model)
  outline_same = sym (entries_of (standing b)) ∙ ap (map (across (λ (x : Rooted). x.0))) said ∙ outlines model

  -- so they refuse the same calls
  pub refusal_same : (call : Call) → refusal_by b call ≡ refusal b.capacity (plain_of model) call
  refusal_same call = ap (λ o. refusal_of b.capacity o call) outline_same

  -- so the tags of its sheets are distinct
  pub model_tagged : tagged model ≡ true
  model_tagged =
      sym (tagged-map rooted_of model)
      ∙ ap tagged (sym said)
      ∙ sym (tagged-map (λ (x : Rooted). x.0) (sheets_of b))
      ∙ ap tagged (entries_of (standing b))
      ∙ (and_parts (tagged (outline_of b)) (leb (total (outline_of b)) b.capacity) b.ok).0
