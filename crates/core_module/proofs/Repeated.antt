-- No name is used twice in what is printed for a source that is loaded.
use mathlib.Core.Path.{◌≡◌, refl, ap, ◌∙◌}
use mathlib.Core.List.{List, [], ◌∷◌, ◌++◌, map}
use mathlib.Core.Option.{none, some}
use mathlib.Core.Bool.{Bool, true, false}
use Prim.Native.Nat.{ℕ}
use Rattle.terms.specs.Label.{Name, Declaration, declared_name}
use Rattle.terms.specs.Resolution.{find, resolve_module, first_refused}
use Rattle.printing.specs.Printing.{Spelled, spelled_core}
use Rattle.core_module.specs.CoreText.{repeated, spelled_text}
use Rattle.core_module.proofs.Source.{fresh}

-- Names that are used twice, of a spelled module.
repeats : List Name → List Spelled → Bool
repeats e [] = false
repeats e (d ∷ l) = elim (find d.name e) [ some i ↦ true | none ↦ repeats (e ++ (d.name ∷ [])) l ]

spelled_repeats : (t : List ℕ) (e : List Name) (l : List Declaration) → repeated t e l ≡ repeats e (map (spelled_text t) l)
unfolding repeated repeats
spelled_repeats t e [] = refl
spelled_repeats t e (d ∷ l) = ap (λ (b : Bool). elim (find (declared_name t d) e) as (λ _. Bool) [ some i ↦ true | none ↦ b ]) (spelled_repeats t (e ++ (declared_name t d ∷ [])) l)

fresh_repeats : (s : List ℕ) (g : List Name) (ds : List Declaration) → first_refused s g ds ≡ none → repeats g (map (spelled_core s) (resolve_module s g ds)) ≡ false
unfolding repeats
fresh_repeats s g [] h = refl
fresh_repeats s g (d ∷ ds) h = go (fresh_repeats s (g ++ (declared_name s d ∷ [])) ds)
  where
    go : (first_refused s (g ++ (declared_name s d ∷ [])) ds ≡ none → repeats (g ++ (declared_name s d ∷ [])) (map (spelled_core s) (resolve_module s (g ++ (declared_name s d ∷ [])) ds)) ≡ false)
        → repeats g (map (spelled_core s) (resolve_module s g (d ∷ ds))) ≡ false
    go ih = fresh s g d ds h (λ p q r. rw (p, repeats) (ih r))

pub not_repeated : (s : List ℕ) (ds : List Declaration) (t : List ℕ) (l : List Declaration) → first_refused s [] ds ≡ none → map (spelled_text t) l ≡ map (spelled_core s) (resolve_module s [] ds) → repeated t [] l ≡ false
not_repeated s ds t l h e = spelled_repeats t [] l ∙ ap (repeats []) e ∙ fresh_repeats s [] ds h
