-- The text of an accepted source is never too long for the reader: at most 20,000 bytes for each byte of the source, and 65 more.
use mathlib.Core.Path.{◌≡◌, refl, sym, subst}
use mathlib.Core.List.{List, [], ◌∷◌, ◌++◌, map}
use mathlib.Core.Option.{Option, none, some}
use mathlib.Core.Bool.{Bool, true, false, cond}
use Prim.Native.Nat.{ℕ, zero, suc, ◌+◌, ◌-◌, ◌*◌, ◌/◌, ◌%◌, ◌≤◌, ◌<◌}
use native.Mathlib.Omega.{arith}
use native.Mathlib.Decide.{dec_lt}
use lib.Dec.{leb, eqb}
use borrow.Author.Tests.{leb-true, eqb-true, eqb-false, lt-ltb, le-ltb}
use lib.ListN.{length, drop, length-append, length-take}
use Rattle.token.specs.declared.Token.{Token}
use Rattle.terms.specs.Forms.{Shape, alone, with_name, with_numeral, binding, plain, Form, forms, Edition, form_of_kind, universe, ref}
use Rattle.terms.specs.Tree.{Forest, nil, node, tree}
use Rattle.terms.specs.Label.{Name, part, Label, Named, Declaration}
use Rattle.terms.specs.Resolution.{find, Locals, find_local, Core, referent, core_of, covers, bound_name, locals_in, resolve_module}
use Rattle.terms.specs.TextForms.{text_forms}
use Rattle.terms.proofs.Names.{find_below, local_below}
use Rattle.terms.proofs.Spans.{core_of_ref, core_of_kept}
use Rattle.terms.proofs.FormTable.{every, of_kind}
use Rattle.surface.specs.Text.{text, label_with, label_alone}
use Rattle.surface.specs.Grammar.{Terms, no_term, leaf_term, ref_term, universe_term, binding_term, plain_term, Declarations, no_declaration, postulate, transparent, opaque, Head, head, Derives}
use Rattle.surface.proofs.Editions.{Conditions, head_meets}
use Rattle.surface.proofs.TokenSizes.{size, Sized, tokens_sized}
use Rattle.printing.specs.Decimal.{digits, decimal}
use Rattle.printing.specs.Printing.{print_shape, print_form, print_terms, declaration_word, print_declarations, text_head, print_module, print_text, spell_core, spelled_core}
use Rattle.printing.specs.PrintCall.{text_of}
use Rattle.core_module.proofs.Source.{carried, core_terms}

-- Digits, and places in a list.
digits_short : (k n : ℕ) → length (digits k n) ≤ n + 1
unfolding digits
digits_short zero n = omega arith
digits_short (suc k) n = go (digits_short k (n / 10)) (dec_lt n 10)
  where
    go : length (digits k (n / 10)) ≤ n / 10 + 1 → Dec (n < 10) → length (digits (suc k) n) ≤ n + 1
    go ih (yes h) = rw (lt-ltb n 10 h, digits) (omega arith)
    go ih (no h) = rw (le-ltb n 10 (omega arith), digits) (omega (arith, length-append (digits k (n / 10)) ((48 + n % 10) ∷ [])))

decimal_short : (n : ℕ) → length (decimal n) ≤ n + 1
unfolding decimal
decimal_short n = digits_short n n

-- The numerals that are printed.
referent_short : (s : List ℕ) (m : Label) (x : Name) (l : Locals) (g : List Name) (a b : Option ℕ) → find_local x l ≡ a → find x g ≡ b → length l ≤ 65535 → length g ≤ 65535
    → length (spell_core s m (referent a b)).name ≤ 65535
referent_short s m x l g (some i) b e f h k = omega (arith, decimal_short i, local_below x l i e)
referent_short s m x l g none (some j) e f h k = omega (arith, decimal_short j, find_below x g j f)
referent_short s m x l g none none e f h k = omega arith

ref_short : (s : List ℕ) (l : Locals) (g : List Name) (m : Label) → eqb m.kind ref ≡ true → length l ≤ 65535 → length g ≤ 65535 → length (spell_core s m (core_of s l g m)).name ≤ 65535
ref_short s l g m e h k =
    let x = part s m.start m.length in
    subst (λ (o : Core). length (spell_core s m o).name ≤ 65535) (sym (core_of_ref s l g m (eqb-true m.kind ref e))) (referent_short s m x l g (find_local x l) (find x g) refl refl h k)

part_short : (s : List ℕ) (m : Label) (b : Bool) → length (cond b (part s m.start m.length) []) ≤ m.length
part_short s m true = omega (arith, length-take m.length (drop m.start s))
part_short s m false = omega arith

kept_short : (s : List ℕ) (l : Locals) (g : List Name) (m : Label) → eqb m.kind ref ≡ false → length (spell_core s m (core_of s l g m)).name ≤ m.length
kept_short s l g m e =
    subst (λ (o : Core). length (spell_core s m o).name ≤ m.length) (sym (core_of_kept s l g m (eqb-false m.kind ref e))) (part_short s m (eqb m.kind universe))

-- The print of one term.
all_short : every (λ g. leb (length g.word) 10) text_forms ≡ true
unfolding text_forms forms
all_short = refl

shape_short : (g : Form) (c : Shape) (n x : List ℕ) → length g.word ≤ 10 → length (print_shape g c n x) ≤ 13 + length n + length x
unfolding print_shape
shape_short g alone n x h = omega arith
shape_short g with_name n x h = omega arith
shape_short g with_numeral n x h = omega (arith, length-append g.word (32 ∷ (n ++ (41 ∷ []))), length-append n (41 ∷ []))
shape_short g binding n x h = omega arith
shape_short g plain n x h = omega (arith, length-append g.word (x ++ (41 ∷ [])), length-append x (41 ∷ []))

form_short : (k : ℕ) (n x : List ℕ) → length (print_form (form_of_kind k text_forms) n x) ≤ 13 + length n + length x
unfolding print_form
form_short k n x = go (form_of_kind k text_forms) refl
  where
    go : (o : Option Form) → form_of_kind k text_forms ≡ o → length (print_form o n x) ≤ 13 + length n + length x
    go none e = omega arith
    go (some g) e = shape_short g g.shape n x (leb-true (length g.word) 10 (of_kind (λ f. leb (length f.word) 10) k text_forms g all_short e))

node_short : (m : Named) (a r : Forest Named) → length (print_terms (node m a r)) ≤ 14 + length m.name + length (print_terms a) + length (print_terms r)
unfolding print_terms
node_short m a r =
    omega (arith, length-append (print_form (form_of_kind m.kind text_forms) m.name (print_terms a)) (print_terms r), form_short m.kind m.name (print_terms a))

nil_short : length (print_terms nil) ≡ 0
unfolding print_terms
nil_short = refl

locals_short : (s : List ℕ) (m : Label) (l : Locals) (i : ℕ) → length (locals_in s m l i) ≤ suc (length l)
locals_short s m l i = go (covers m.kind i)
  where
    go : (b : Bool) → length {A = Option Name} (cond b (bound_name m.kind (part s m.start m.length) ∷ l) l) ≤ suc (length l)
    go true = omega arith
    go false = omega arith

module _ (E : Edition) (meets : Conditions E) (s : List ℕ) where
  abbrev node_of : (ℕ → Locals) → List Name → Label → Named
  node_of e g m = spell_core s m (core_of s (e zero) g m)

  -- The print of terms against the tokens that they were read from.
  record Shorter (ts us : List Token) (n : ℕ) : Type 0 where
    bytes : n + 20000 * size us ≤ 20000 * size ts
    sized : Sized us

  terms_short : {n : ℕ} {ts us : List Token} {f : Forest Label} → Terms E s n ts f us → (e : ℕ → Locals) (g : List Name) → Sized ts → ((i : ℕ) → length (e i) + size ts ≤ 65535) → length g ≤ 65535
      → Shorter ts us (length (print_terms (core_terms E meets s e g f)))
  terms_short no_term e g z h k = record { bytes = omega (arith, nil_short); sized = z }
  terms_short (leaf_term {t = t} {r = r} {f = f} x d) e g z h k =
      let m = label_alone f t.start in
      let w = terms_short d (λ i. e (suc i)) g z.1 (λ i. omega (arith, h (suc i))) k in
      record {
        bytes = omega (arith, w.bytes, z.0, node_short (node_of e g m) nil (core_terms E meets s (λ i. e (suc i)) g r), nil_short, kept_short s (e zero) g m (carried E meets s f alone t x).reference);
        sized = w.sized;
      }
  terms_short (ref_term {o = o} {t = t} {x = x} {c = c} {r = r} {f = f} a b y q d) e g z h k =
      let m = label_with f x o.start in
      let w = terms_short d (λ i. e (suc i)) g z.1.1.1.1 (λ i. omega (arith, h (suc i))) k in
      record {
        bytes = omega (arith, w.bytes, z.0, z.1.0, z.1.1.0, z.1.1.1.0, node_short (node_of e g m) nil (core_terms E meets s (λ i. e (suc i)) g r), nil_short, ref_short s (e zero) g m (carried E meets s f with_name t b).reference (omega (arith, h zero)) k);
        sized = w.sized;
      }
  terms_short (universe_term {o = o} {t = t} {x = x} {c = c} {r = r} {f = f} a b y q d) e g z h k =
      let m = label_with f x o.start in
      let w = terms_short d (λ i. e (suc i)) g z.1.1.1.1 (λ i. omega (arith, h (suc i))) k in
      record {
        bytes = omega (arith, w.bytes, z.0, z.1.0, z.1.1.0, z.1.1.1.0, node_short (node_of e g m) nil (core_terms E meets s (λ i. e (suc i)) g r), nil_short, kept_short s (e zero) g m (carried E meets s f with_numeral t b).reference);
        sized = w.sized;
      }
  terms_short (binding_term {o = o} {t = t} {x = x} {c = c} {a = a} {r = r} {f = f} p b y d q u) e g z h k =
      let m = label_with f x o.start in
      let l = locals_in s m (e zero) in
      let v = terms_short d l g z.1.1.1 (λ i. omega (arith, h zero, locals_short s m (e zero) i, z.0)) k in
      let w = terms_short u (λ i. e (suc i)) g v.sized.1 (λ i. omega (arith, h (suc i), v.bytes)) k in
      record {
        bytes = omega (arith, v.bytes, w.bytes, z.0, z.1.0, z.1.1.0, v.sized.0, node_short (node_of e g m) (core_terms E meets s l g a) (core_terms E meets s (λ i. e (suc i)) g r), kept_short s (e zero) g m (carried E meets s f binding t b).reference);
        sized = w.sized;
      }
  terms_short (plain_term {o = o} {t = t} {c = c} {a = a} {r = r} {f = f} p b d q u) e g z h k =
      let m = label_alone f o.start in
      let l = locals_in s m (e zero) in
      let v = terms_short d l g z.1.1 (λ i. omega (arith, h zero, locals_short s m (e zero) i, z.0)) k in
      let w = terms_short u (λ i. e (suc i)) g v.sized.1 (λ i. omega (arith, h (suc i), v.bytes)) k in
      record {
        bytes = omega (arith, v.bytes, w.bytes, z.0, z.1.0, v.sized.0, node_short (node_of e g m) (core_terms E meets s l g a) (core_terms E meets s (λ i. e (suc i)) g r), kept_short s (e zero) g m (carried E meets s f plain t b).reference);
        sized = w.sized;
      }

  declaration_short : (w d t l : List ℕ) → length w ≤ 11 → length (32 ∷ 40 ∷ (w ++ (32 ∷ 34 ∷ (d ++ (34 ∷ (t ++ (41 ∷ l))))))) ≤ 18 + length d + length t + length l
  declaration_short w d t l h =
      omega (arith, length-append w (32 ∷ 34 ∷ (d ++ (34 ∷ (t ++ (41 ∷ l))))), length-append d (34 ∷ (t ++ (41 ∷ l))), length-append t (41 ∷ l))

  -- One declaration of a kind with a short word, and those behind it.
  step_short : (k : ℕ) (o t x c : Token) (ts us : List Token) (f : Forest Label) (n : ℕ) (g : List Name) (l : List ℕ) → Sized (o ∷ t ∷ x ∷ ts) → length g + size (o ∷ t ∷ x ∷ ts) ≤ 65535
      → length (declaration_word k) ≤ 11 → Terms E s n ts f (c ∷ us)
      → (Sized us → suc (length g) + size us ≤ 65535 → length l ≤ 20000 * size us)
      → length (32 ∷ 40 ∷ (declaration_word k ++ (32 ∷ 34 ∷ (text s x ++ (34 ∷ (print_terms (core_terms E meets s (λ i. []) g f) ++ (41 ∷ l))))))) ≤ 20000 * size (o ∷ t ∷ x ∷ ts)
  step_short k o t x c ts us f n g l z h w d r =
      let y = terms_short d (λ i. []) g z.1.1.1 (λ i. omega arith) (omega arith) in
      let v = r y.sized.1 (omega (arith, y.bytes, y.sized.0, z.0)) in
      let p = print_terms (core_terms E meets s (λ i. []) g f) in
      omega (arith, declaration_short (declaration_word k) (text s x) p l w, y.bytes, y.sized.0, v, z.0, z.1.0, z.1.1.0, length-take (x.end - x.start) (drop x.start s))

  declarations_short : {ts : List Token} {ds : List Declaration} → Declarations E s ts ds → (g : List Name) → Sized ts → length g + size ts ≤ 65535
      → length (print_declarations (map (spelled_core s) (resolve_module s g ds))) ≤ 20000 * size ts
  unfolding print_declarations declaration_word
  declarations_short no_declaration g z h = omega arith
  declarations_short (postulate {o = o} {t = t} {x = x} {c = c} {ts = ts} {us = us} {a = a} {ds = ds} p w n d e k) g z h =
      step_short 1 o t x c ts us (tree a nil) 1 g (print_declarations (map (spelled_core s) (resolve_module s (g ++ (text s x ∷ [])) ds))) z h (omega arith) d
      (λ y v. declarations_short k (g ++ (text s x ∷ [])) y (omega (arith, length-append g (text s x ∷ []))))
  declarations_short (transparent {o = o} {t = t} {x = x} {c = c} {ts = ts} {us = us} {a = a} {b = b} {ds = ds} p w n d e k) g z h =
      step_short 2 o t x c ts us (tree a (tree b nil)) 2 g (print_declarations (map (spelled_core s) (resolve_module s (g ++ (text s x ∷ [])) ds))) z h (omega arith) d
      (λ y v. declarations_short k (g ++ (text s x ∷ [])) y (omega (arith, length-append g (text s x ∷ []))))
  declarations_short (opaque {o = o} {t = t} {x = x} {c = c} {ts = ts} {us = us} {a = a} {b = b} {ds = ds} p w n d e k) g z h =
      step_short 3 o t x c ts us (tree a (tree b nil)) 2 g (print_declarations (map (spelled_core s) (resolve_module s (g ++ (text s x ∷ [])) ds))) z h (omega arith) d
      (λ y v. declarations_short k (g ++ (text s x ∷ [])) y (omega (arith, length-append g (text s x ∷ []))))

-- What follows the head has no more bytes.
head_rest : {s : List ℕ} {ts us : List Token} {E : Edition} {x : Token} → Head s ts E x us → Sized ts → Sized us × (size us ≤ size ts)
head_rest (head o w v c p m x d) z = (z.1.1.1.1.1.1.1.1.1, omega arith)

pub text_short : (s : List ℕ) (ds : List Declaration) → Derives s ds → length s ≤ 65535 → length (text_of s ds) ≤ 4294967295
unfolding print_text print_module
text_short s ds d h =
    let y = tokens_sized s d.lexed (omega arith) in
    let r = head_rest d.head y.0 in
    let l = print_declarations (map (spelled_core s) (resolve_module s [] ds)) in
    let k = declarations_short d.edition (head_meets d.head) s d.declarations [] r.0 (omega (arith, y.1, r.1)) in
    omega (arith, length-append text_head (l ++ (41 ∷ 41 ∷ 10 ∷ [])), length-append l (41 ∷ 41 ∷ 10 ∷ []), k, y.1, r.1)
