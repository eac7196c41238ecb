-- The promise of `ask_records` leaves nothing free.
use mathlib.Core.Path.{◌≡◌, refl, sym, ap, ◌∙◌}
use lib.ListN.{length}
use Rattle.terms.specs.Rows.{pad}
use Rattle.surface.specs.Answer.{Answer}
use Rattle.surface.specs.Tables.{Tables, tables, Left, leaves}
use Rattle.binding.proofs.Statements as binding
use Rattle.printing.specs.PrintCall.{PrintLeft}
use Rattle.record_loader.specs.declared.Question.{Question}
use Rattle.record_loader.specs.declared.Reply.{Reply}
use Rattle.record_loader.specs.Replies.{bound_of, without_core, for_text, Besides}
use Rattle.record_loader.specs.Statements.{OneReply}

-- Two replies that hold what one definition gives.
left_once : {A : Type 0} (reply : A → Reply) (r₁ r₂ : Reply) (a b : A) (t u : Tables) → r₁ ≡ reply a → r₂ ≡ reply b → leaves a t ≡ leaves b u → (r₁ ≡ r₂) × (t ≡ u)
left_once {A = A} reply r₁ r₂ a b t u h k e = (h ∙ ap (λ (o : Left A Tables). reply o.answer) e ∙ sym k, ap (λ (o : Left A Tables). o.tables) e)

-- What reading a core text is lent, and what it is not, are all of the tables.
text_once : (before after₁ after₂ : Tables) → for_text after₁ ≡ for_text after₂ → Besides before after₁ → Besides before after₂ → after₁ ≡ after₂
text_once before after₁ after₂ e f g =
    let d = f.rest_blank ∙ ap (λ (t : Tables). pad (length before.declarations) t.declarations) e ∙ sym g.rest_blank in
    let s = f.surface_kept ∙ sym g.surface_kept in
    λ i. tables (s i) (e i).core (d i) (e i).work

read_once : (before after₁ after₂ : Tables) (r₁ r₂ : Reply) (a b : Answer) → r₁ ≡ Reply.Read a → r₂ ≡ Reply.Read b
    → leaves a (for_text after₁) ≡ leaves b (for_text after₂) → Besides before after₁ → Besides before after₂ → (r₁ ≡ r₂) × (after₁ ≡ after₂)
read_once before after₁ after₂ r₁ r₂ a b h k e f g =
    let w = left_once Reply.Read r₁ r₂ a b (for_text after₁) (for_text after₂) h k e in (w.0, text_once before after₁ after₂ w.1 f g)

pub one_reply : OneReply
one_reply s Question.Load before text r₁ r₂ after₁ after₂ text₁ text₂ h k =
    let w = left_once Reply.Loaded r₁ r₂ _ _ after₁ after₂ h.0 k.0 (h.1.0 ∙ sym k.1.0) in (w.0, w.1, h.1.1 ∙ sym k.1.1)
one_reply s Question.Parse before text r₁ r₂ after₁ after₂ text₁ text₂ h k =
    let w = left_once Reply.Parsed r₁ r₂ _ _ (without_core after₁) (without_core after₂) h.0 k.0 (h.1.0 ∙ sym k.1.0) in
    let c = h.1.1 ∙ sym k.1.1 in
    (w.0, λ i. tables (w.1 i).surface (c i) (w.1 i).declarations (w.1 i).work, h.1.2 ∙ sym k.1.2)
one_reply s (Question.Depends i j) before text r₁ r₂ after₁ after₂ text₁ text₂ h k =
    let w = left_once Reply.Depends r₁ r₂ _ _ after₁ after₂ h.0 k.0 (h.1.0 ∙ sym k.1.0) in (w.0, w.1, h.1.1 ∙ sym k.1.1)
one_reply s (Question.Binder n) before text r₁ r₂ after₁ after₂ text₁ text₂ h k =
    let e = binding.one_answer s n before before (bound_of r₁) (bound_of r₂) after₁ after₂ refl h.1.0 k.1.0 in
    (h.0 ∙ ap Reply.Bound e.0 ∙ sym k.0, e.1, h.1.1 ∙ sym k.1.1)
one_reply s Question.Print before text r₁ r₂ after₁ after₂ text₁ text₂ h k =
    let e = h.1 ∙ sym k.1 in
    (h.0 ∙ ap (λ (o : PrintLeft). Reply.Printed o.answer) e ∙ sym k.0, ap (λ (o : PrintLeft). o.tables) e, ap (λ (o : PrintLeft). o.text) e)
one_reply s Question.ReadCore before text r₁ r₂ after₁ after₂ text₁ text₂ h k =
    let w = read_once before after₁ after₂ r₁ r₂ _ _ h.0 k.0 (h.1.0 ∙ sym k.1.0) h.1.1 k.1.1 in (w.0, w.1, h.1.2 ∙ sym k.1.2)
one_reply s Question.ReadCanonical before text r₁ r₂ after₁ after₂ text₁ text₂ h k =
    let w = read_once before after₁ after₂ r₁ r₂ _ _ h.0 k.0 (h.1.0 ∙ sym k.1.0) h.1.1 k.1.1 in (w.0, w.1, h.1.2 ∙ sym k.1.2)
