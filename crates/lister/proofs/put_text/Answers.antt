-- `lister::put_text` meets its contract: a line for a refusal, a listing for a loaded module.
use mathlib.Core.Path.{◌≡◌, sym, subst}
use lib.ListN.{length}
use Rattle.surface.specs.Answer.{Answer}
use Rattle.text.specs.Text.{with_text, length_in}
use Rattle.lister.specs.Lists.{text_of}
use Rattle.lister.proofs.put_text.Goals as goal

pub returns-in-Err : goal.returns-in-Err
returns-in-Err c =
    let whole = let a = c.args in
    let p = c.put_refusal in
    subst (λ (x : Answer). (p.new.out ≡ with_text a.text.now (text_of a.s.now x a.core.now a.declarations.now)) × (p.result ≡ length_in a.text.now (length (text_of a.s.now x a.core.now a.declarations.now))))
    (sym c.in-Err.is) (p.ensures.out_after, p.ensures.value) in record { text_after = whole.0; value = whole.1 }

pub returns-in-Ok : goal.returns-in-Ok
returns-in-Ok c =
    let whole = let a = c.args in
    let p = c.put_listing in
    subst (λ (x : Answer). (p.new.out ≡ with_text a.text.now (text_of a.s.now x a.core.now a.declarations.now)) × (p.result ≡ length_in a.text.now (length (text_of a.s.now x a.core.now a.declarations.now))))
    (sym c.in-Ok.is) (p.ensures.out_after, p.ensures.value) in record { text_after = whole.0; value = whole.1 }
