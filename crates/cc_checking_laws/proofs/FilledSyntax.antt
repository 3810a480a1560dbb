-- Filling with sets of globals commutes with all that moves no global, and with putting a shape. Reading a body leaves its binder.
use Rattle.std.proofs.Common.{◌≡◌, ℕ, zero, suc, ◌-◌, ◌<◌, ◌≤◌, [], ◌∷◌, length, refl, sym, ap, ◌∙◌, inl, inr, arith}
use Rattle.std.proofs.lemmas.Bool.{cases_lt, cases_eq}
use Rattle.cc_capture.specs.declared.var.Var.{Var}
use Rattle.cc_capture.specs.declared.var.Var.TheVariants.{Bound, Free}
use Rattle.cc_capture.specs.declared.var.Elem.{Elem}
use Rattle.cc_capture.specs.declared.var.Elem.TheVariants.{Var as Variable, Cap, Hole}
use Rattle.cc_capture.specs.Sets.{Member}
use Rattle.cc_core.specs.Shapes.{Shape}
use Rattle.cc_core.specs.Contexts.{Bind, TermEntry, TypeEntry, Context}
use Rattle.cc_core.specs.Traversal.{act, act_set, composed}
use Rattle.cc_core.specs.Substitution.{single, moved_element, moving, filled_element, filling_in, put_variable, closed_variable, put_shape, putting_shape}
use Rattle.cc_core.specs.Captured.{outside}
use Rattle.cc_core.specs.Occurrences.{IsAskedOf, HasBinder}
use Rattle.cc_core.specs.Reading.{read_variable, reading}
use Rattle.cc_core.specs.WellFormed.{kinds_of, kind_of}
use Rattle.cc_core.proofs.Actions.{same_actions}
use Rattle.cc_core.proofs.CapturedActions.{PassesBinders, MovesOutwards, PassesBinders-moves}
use Rattle.cc_core.proofs.FreeActions.{put_shape-same, put_shape-other, putting_shape_set}
use Rattle.cc_core.proofs.Lookups.{length_map}
use Rattle.cc_core.proofs.Moving.{flat_image-of_single, moving-still}
use Rattle.cc_core.proofs.Opening.{closed_variable-other}
use Rattle.cc_core.proofs.ReadingAndWriting.{read_variable-inside, read_variable-entry, read_variable-past}
use Rattle.cc_core.proofs.Shifting.{shift}
use Rattle.cc_core.proofs.Sorts.{Sort, SetSort, Syntax, acted, acted-acted}
use Rattle.cc_checking.specs.Fillings.{Filling, filled_entry, filled_context, IsGlobal, IsOverGlobals}

pub length-filled : (f : Filling) (g : Context) → length (filled_context f g) ≡ length g
length-filled f g = length_map (filled_entry f) g

kind-filled : (f : Filling) (b : Bind) → kind_of (filled_entry f b) ≡ kind_of b
kind-filled f (TermEntry s c) = refl
kind-filled f (TypeEntry b) = refl

pub kinds-filled : (f : Filling) (g : Context) → kinds_of (filled_context f g) ≡ kinds_of g
kinds-filled f [] = refl
kinds-filled f (b ∷ g) = ap (λ k. k ∷ kinds_of (filled_context f g)) (kind-filled f b) ∙ ap (λ ks. kind_of b ∷ ks) (kinds-filled f g)

module _ (root : ℕ) (f : Filling) (over : IsOverGlobals root f) where
  -- a move that leaves the globals
  abbrev pub LeavesGlobals : (ℕ → Var → Var) → Type 0
  LeavesGlobals move = (d p : ℕ) → p < root → move d (Free p) ≡ Free p

  still_on : (move : ℕ → Var → Var) → LeavesGlobals move → (d h : ℕ) → act_set (moving move) d (f h) ≡ f h
  still_on move leaves d h = moving-still move SetSort d (f h) (λ e m. by_element e (over h e m))
    where
      by_element : (e : Elem) → IsGlobal root e → IsAskedOf (λ v. move d v ≡ v) e
      by_element (Variable (Free p)) g = leaves d p g
      by_element (Variable (Bound i)) g = absurd g
      by_element Cap g = tt
      by_element (Hole n) g = tt

  -- filling after a move is moving after filling
  pub filled-moved : (move : ℕ → Var → Var) → LeavesGlobals move → (sort : Sort) (d : ℕ) (x : Syntax sort)
      → acted sort (filling_in f) d (acted sort (moving move) d x) ≡ acted sort (moving move) d (acted sort (filling_in f) d x)
  filled-moved move leaves sort d x =
      acted-acted sort (filling_in f) (moving move) d x
      ∙ ap (λ a. acted sort a d x) (same_actions (composed (filling_in f) (moving move)) (composed (moving move) (filling_in f)) elements (λ d v. refl) (λ d v. refl))
      ∙ sym (acted-acted sort (moving move) (filling_in f) d x)
    where
      elements : (d : ℕ) (e : Elem) → act_set (filling_in f) d (single (moved_element (move d) e)) ≡ act_set (moving move) d (filled_element f e)
      elements d (Variable v) = flat_image-of_single (filled_element f) (Variable (move d v)) ∙ sym (flat_image-of_single ((moving move).element d) (Variable v))
      elements d Cap = flat_image-of_single (filled_element f) Cap ∙ sym (flat_image-of_single ((moving move).element d) Cap)
      elements d (Hole h) = flat_image-of_single (filled_element f) (Hole h) ∙ sym (still_on move leaves d h)

  pub opening_leaves : (v : Var) → LeavesGlobals (put_variable v)
  opening_leaves v d p below = refl

  pub reading_leaves : (n : ℕ) → LeavesGlobals (read_variable n)
  reading_leaves n d p below = refl

  pub closing_leaves : (n : ℕ) → root ≤ n → LeavesGlobals (closed_variable n)
  closing_leaves n more d p below = closed_variable-other n d p (λ same. omega arith)

  level : (d : ℕ) (s : Shape) → act (filling_in f) d s ≡ act (filling_in f) 0 s
  level zero s = refl
  level (suc d) s = shift (filling_in f) d s ∙ level d s

  -- filling after putting a shape is putting the filled shape after filling
  pub filled-put_shape : (by : Shape) (sort : Sort) (d : ℕ) (x : Syntax sort)
      → acted sort (filling_in f) d (acted sort (putting_shape by) d x)
      ≡ acted sort (putting_shape (act (filling_in f) 0 by)) d (acted sort (filling_in f) d x)
  filled-put_shape by sort d x =
      acted-acted sort (filling_in f) (putting_shape by) d x
      ∙ ap (λ a. acted sort a d x) (same_actions (composed (filling_in f) (putting_shape by)) (composed (putting_shape (act (filling_in f) 0 by)) (filling_in f)) elements shapes (λ d v. refl))
      ∙ sym (acted-acted sort (putting_shape (act (filling_in f) 0 by)) (filling_in f) d x)
    where
      elements : (d : ℕ) (e : Elem) → act_set (filling_in f) d (single e) ≡ act_set (putting_shape (act (filling_in f) 0 by)) d (filled_element f e)
      elements d e = flat_image-of_single (filled_element f) e ∙ sym (putting_shape_set (act (filling_in f) 0 by) d (filled_element f e))

      shapes : (d : ℕ) (v : Var) → act (filling_in f) d (put_shape by d v) ≡ put_shape (act (filling_in f) 0 by) d v
      shapes d (Free p) = refl
      shapes d (Bound i) =
          elim (cases_eq i d) as (λ _. act (filling_in f) d (put_shape by d (Bound i)) ≡ put_shape (act (filling_in f) 0 by) d (Bound i)) [
            | inl same ↦
                ap (λ j. act (filling_in f) d (put_shape by d (Bound j))) same ∙ ap (act (filling_in f) d) (put_shape-same by d) ∙ level d by
                ∙ sym (put_shape-same (act (filling_in f) 0 by) d) ∙ ap (λ j. put_shape (act (filling_in f) 0 by) d (Bound j)) (sym same)
            | inr other ↦ ap (act (filling_in f) d) (put_shape-other by d i other) ∙ sym (put_shape-other (act (filling_in f) 0 by) d i other)
          ]

  -- no hole is filled with an index
  pub no_index_filled : (h : ℕ) (e : Elem) → Member e (f h) → IsAskedOf (HasBinder 0) e
  no_index_filled h e m = by_element e (over h e m)
    where
      by_element : (e : Elem) → IsGlobal root e → IsAskedOf (HasBinder 0) e
      by_element (Variable (Free p)) g = tt
      by_element (Variable (Bound i)) g = absurd g
      by_element Cap g = tt
      by_element (Hole n) g = tt

-- reading outside of a binder
reading_outwards : (n : ℕ) → MovesOutwards (read_variable n)
reading_outwards n = record { newest = newest; newest_stays = λ d. read_variable-inside n (suc d) 0 (omega arith); index = index; position = λ d p. refl }
  where
    newest : (d : ℕ) (v : Var) → read_variable n (suc d) v ≡ Bound zero → v ≡ Bound zero
    newest d (Free p) e = cc
    newest d (Bound i) e =
        elim (cases_lt i (suc d)) as (λ _. Bound i ≡ Bound zero) [
          | inl inside ↦ sym (read_variable-inside n (suc d) i inside) ∙ e
          | inr beyond ↦
              elim (cases_lt (i - suc d) n) as (λ _. Bound i ≡ Bound zero) [
                | inl within ↦ let clash : Free (n - suc (i - suc d)) ≡ Bound zero = sym (read_variable-entry n (suc d) i beyond within) ∙ e in cc
                | inr past ↦ sym (read_variable-past n (suc d) i past) ∙ e
              ]
        ]

    index : (d i : ℕ) → outside (Variable (read_variable n (suc d) (Bound (suc i)))) ≡ single (Variable (read_variable n d (Bound i)))
    index d i =
        elim (cases_lt i d) as (λ _. outside (Variable (read_variable n (suc d) (Bound (suc i)))) ≡ single (Variable (read_variable n d (Bound i)))) [
          | inl inside ↦
              ap (λ v. outside (Variable v)) (read_variable-inside n (suc d) (suc i) (omega arith)) ∙ ap (λ v. single (Variable v)) (sym (read_variable-inside n d i inside))
          | inr beyond ↦
              let same : suc i - suc d ≡ i - d = omega arith in
              elim (cases_lt (i - d) n) as (λ _. outside (Variable (read_variable n (suc d) (Bound (suc i)))) ≡ single (Variable (read_variable n d (Bound i)))) [
                | inl within ↦
                    ap (λ v. outside (Variable v)) (read_variable-entry n (suc d) (suc i) (omega arith) (omega arith))
                    ∙ ap (λ k. single (Variable (Free (n - suc k)))) same ∙ ap (λ v. single (Variable v)) (sym (read_variable-entry n d i beyond within))
                | inr past ↦
                    ap (λ v. outside (Variable v)) (read_variable-past n (suc d) (suc i) (omega arith)) ∙ ap (λ v. single (Variable v)) (sym (read_variable-past n d i past))
              ]
        ]

pub PassesBinders-reading : (n : ℕ) → PassesBinders (reading n)
PassesBinders-reading n = PassesBinders-moves (reading n) (read_variable n) (λ d x. refl) (λ d v. refl) (reading_outwards n)
