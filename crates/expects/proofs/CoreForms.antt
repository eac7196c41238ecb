-- The forms of surface 0 2 and of core text, by those of surface 0 1.
use Rattle.std.specs.Prelude.{Option, Some, None, option_map, option_and_then}
use Rattle.std.proofs.lemmas.Option.{none-some, same_Some}
use mathlib.Core.Path.{◌≡◌, refl, sym, ◌∙◌, ap, subst}
use mathlib.Core.Bool.{Bool, true, false, ◌&&◌}
use mathlib.Core.List.{List, [], ◌∷◌}
use mathlib.Core.Option as math
use Prim.Native.Nat.{ℕ}
use Rattle.words.specs.Words.{ascii, same_bytes}
use Rattle.words.proofs.Names.{same_eq}
use Rattle.terms.specs.Forms.{Shape, alone, with_name, with_numeral, binding, plain, Form, forms, forms_0_2, form_of_word}
use Rattle.terms.specs.TextForms.{without_name, without_names, text_forms}
use Rattle.expects.specs.declared.Shape as code
use Rattle.expects.specs.declared.FormOfWord.{FormOfWord}
use Rattle.expects.specs.FormOfWord.{told_form, unnamed_shape, unnamed}
use Rattle.expects.proofs.Arities.{both}

abbrev is_none : math.Option Form → Bool
is_none math.none = true
is_none (math.some f) = false

none_is : (o : math.Option Form) → is_none o ≡ true → o ≡ math.none
none_is math.none e = refl
none_is (math.some f) e = cc

-- A form that is nothing but a name has a word that no later form has.
abbrev single : Form → Shape → List Form → Bool
single f alone l = true
single f with_name l = is_none (form_of_word f.word l)
single f with_numeral l = true
single f binding l = true
single f plain l = true

abbrev all_single : List Form → Bool
all_single [] = true
all_single (f ∷ l) = single f f.shape l && all_single l

-- A word that has no form has none without names either.
none_stays : (w : List ℕ) (l : List Form) → form_of_word w l ≡ math.none → form_of_word w (without_names l) ≡ math.none
unfolding form_of_word
none_stays w [] e = refl
none_stays w (f ∷ l) e = by (same_bytes w f.word) refl (none_stays w l)
  where
    shaped : (c : Shape) → same_bytes w f.word ≡ false → form_of_word w (without_names l) ≡ math.none → form_of_word w (without_name f c (without_names l)) ≡ math.none
    shaped alone q h = rw (q, form_of_word) h
    shaped with_name q h = h
    shaped with_numeral q h = rw (q, form_of_word) h
    shaped binding q h = rw (q, form_of_word) h
    shaped plain q h = rw (q, form_of_word) h

    by : (t : Bool) → same_bytes w f.word ≡ t → (form_of_word w l ≡ math.none → form_of_word w (without_names l) ≡ math.none)
        → form_of_word w (without_name f f.shape (without_names l)) ≡ math.none
    by true q ih = let h : math.some f ≡ math.none = rw (q, form_of_word) at e in cc
    by false q ih = shaped f.shape q (ih (rw (q, form_of_word) at e))

without : (w : List ℕ) (l : List Form) → all_single l ≡ true → told_form (form_of_word w (without_names l)) ≡ option_and_then unnamed (told_form (form_of_word w l))
unfolding form_of_word
without w [] a = refl
without w (f ∷ l) a = let b = both (single f f.shape l) (all_single l) a in by (same_bytes w f.word) refl f.shape refl b.0 (without w l b.1)
  where
    by : (t : Bool) → same_bytes w f.word ≡ t → (c : Shape) → f.shape ≡ c → single f c l ≡ true
        → told_form (form_of_word w (without_names l)) ≡ option_and_then unnamed (told_form (form_of_word w l))
        → told_form (form_of_word w (without_name f c (without_names l))) ≡ option_and_then unnamed (told_form (form_of_word w (f ∷ l)))
    by true q alone s a h = rw (q, form_of_word, s)
    by true q with_name s a h =
        rw (q, form_of_word, s)
        (ap told_form (none_stays w l (ap (λ (v : List ℕ). form_of_word v l) (same_eq w f.word q) ∙ none_is (form_of_word f.word l) a)))
    by true q with_numeral s a h = rw (q, form_of_word, s)
    by true q binding s a h = rw (q, form_of_word, s)
    by true q plain s a h = rw (q, form_of_word, s)
    by false q alone s a h = rw (q, form_of_word) h
    by false q with_name s a h = rw (q, form_of_word) h
    by false q with_numeral s a h = rw (q, form_of_word) h
    by false q binding s a h = rw (q, form_of_word) h
    by false q plain s a h = rw (q, form_of_word) h

forms_single : all_single forms ≡ true
unfolding forms form_of_word same_bytes
forms_single = refl

module _ (w : List ℕ) where
  pub var_form : same_bytes w (ascii "var") ≡ true → told_form (form_of_word w text_forms) ≡ Some (record { kind = 1; shape = code.Shape.WithNumeral })
  unfolding text_forms form_of_word
  var_form e = rw (e, form_of_word)

  module _ (v : same_bytes w (ascii "var") ≡ false) where
    pub global_form : same_bytes w (ascii "global") ≡ true → told_form (form_of_word w text_forms) ≡ Some (record { kind = 2; shape = code.Shape.WithNumeral })
    unfolding text_forms form_of_word
    global_form e = rw (v, e, form_of_word)

    pub other_form : same_bytes w (ascii "global") ≡ false → told_form (form_of_word w text_forms) ≡ option_and_then unnamed (told_form (form_of_word w forms))
    unfolding text_forms form_of_word
    other_form e = rw (v, e, form_of_word) (without w forms forms_single)

  pub arrow_form : same_bytes w (ascii "arrow") ≡ true → told_form (form_of_word w forms_0_2) ≡ Some (record { kind = 25; shape = code.Shape.Plain })
  unfolding forms_0_2 form_of_word
  arrow_form e = rw (e, form_of_word)

  pub no_arrow : same_bytes w (ascii "arrow") ≡ false → told_form (form_of_word w forms_0_2) ≡ told_form (form_of_word w forms)
  unfolding forms_0_2 form_of_word
  no_arrow e = rw (e, form_of_word)

-- A form that is written without a name stays.
kept : (f : FormOfWord) → unnamed_shape f.shape ≡ Some f.shape → unnamed f ≡ Some f
kept f e = ap (option_map (λ s. record { kind = f.kind; shape = s })) e

pub unnamed_other : (f : FormOfWord) → (f.shape ≡ code.Shape.WithName → ⊥) → (f.shape ≡ code.Shape.Binding → ⊥) → Some f ≡ unnamed f
unnamed_other f a b = sym (kept f (by f.shape a b))
  where
    by : (s : code.Shape) → (s ≡ code.Shape.WithName → ⊥) → (s ≡ code.Shape.Binding → ⊥) → unnamed_shape s ≡ Some s
    by code.Shape.Alone a b = refl
    by code.Shape.WithName a b = absurd (a refl)
    by code.Shape.WithNumeral a b = refl
    by code.Shape.Binding a b = absurd (b refl)
    by code.Shape.Plain a b = refl

-- The words that stand alone are those of a source.
pub record Alone (g h : Option FormOfWord) : Type 0 where
  pub there : (f : FormOfWord) → g ≡ Some f → f.shape ≡ code.Shape.Alone → h ≡ g
  pub back : (f : FormOfWord) → h ≡ Some f → f.shape ≡ code.Shape.Alone → g ≡ h

alone_unnamed : (g : Option FormOfWord) → Alone g (option_and_then unnamed g)
alone_unnamed None = record { there = λ f e q. refl; back = λ f e q. refl }
alone_unnamed (Some x) = record {
  there = λ f e q. let s = same_Some x f e in kept x (rw s (rw q));
  back = λ f e q. by x.shape refl f e q;
}
  where
    by : (s : code.Shape) → x.shape ≡ s → (f : FormOfWord) → unnamed x ≡ Some f → f.shape ≡ code.Shape.Alone → Some x ≡ unnamed x
    by code.Shape.Alone i f e q = sym (kept x (rw i))
    by code.Shape.WithName i f e q = absurd (none-some f (rw i at e))
    by code.Shape.WithNumeral i f e q = sym (kept x (rw i))
    by code.Shape.Binding i f e q = let s = same_Some _ _ (rw i at e) in cc
    by code.Shape.Plain i f e q = sym (kept x (rw i))

-- A word that has no form in surface 0 1, and one with a parenthesis in another format.
alone_neither : (g h : Option FormOfWord) (x : FormOfWord) → g ≡ None → h ≡ Some x → (x.shape ≡ code.Shape.Alone → ⊥) → Alone g h
alone_neither g h x p q n = record {
  there = λ f e a. absurd (none-some f (sym p ∙ e));
  back = λ f e a. absurd (n (ap (λ y. y.shape) (same_Some x f (sym q ∙ e)) ∙ a));
}

no_form : (w v : List ℕ) → same_bytes w v ≡ true → told_form (form_of_word v forms) ≡ None → told_form (form_of_word w forms) ≡ None
no_form w v e h = ap (λ (x : List ℕ). told_form (form_of_word x forms)) (same_eq w v e) ∙ h

no_var : told_form (form_of_word (ascii "var") forms) ≡ None
unfolding forms form_of_word same_bytes
no_var = refl

no_global : told_form (form_of_word (ascii "global") forms) ≡ None
unfolding forms form_of_word same_bytes
no_global = refl

no_arrow_form : told_form (form_of_word (ascii "arrow") forms) ≡ None
unfolding forms form_of_word same_bytes
no_arrow_form = refl

pub alone_arrow : (w : List ℕ) → Alone (told_form (form_of_word w forms)) (told_form (form_of_word w forms_0_2))
alone_arrow w = by (same_bytes w (ascii "arrow")) refl
  where
    by : (a : Bool) → same_bytes w (ascii "arrow") ≡ a → Alone (told_form (form_of_word w forms)) (told_form (form_of_word w forms_0_2))
    by true p = alone_neither _ _ _ (no_form w (ascii "arrow") p no_arrow_form) (arrow_form w p) (λ e. cc)
    by false p = subst (Alone (told_form (form_of_word w forms))) (sym (no_arrow w p)) (record { there = λ f e q. refl; back = λ f e q. refl })

pub alone_text : (w : List ℕ) → Alone (told_form (form_of_word w forms)) (told_form (form_of_word w text_forms))
alone_text w = by (same_bytes w (ascii "var")) refl (same_bytes w (ascii "global")) refl
  where
    by : (a : Bool) → same_bytes w (ascii "var") ≡ a → (b : Bool) → same_bytes w (ascii "global") ≡ b → Alone (told_form (form_of_word w forms)) (told_form (form_of_word w text_forms))
    by true p b q = alone_neither _ _ _ (no_form w (ascii "var") p no_var) (var_form w p) (λ e. cc)
    by false p true q = alone_neither _ _ _ (no_form w (ascii "global") q no_global) (global_form w p q) (λ e. cc)
    by false p false q = subst (Alone (told_form (form_of_word w forms))) (sym (other_form w p q)) (alone_unnamed (told_form (form_of_word w forms)))
