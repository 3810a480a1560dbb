-- A name has a position exactly where one of the list is it.
use Rattle.std.proofs.Common.{◌≡◌, ℕ, ◌+◌, Bool, true, false, ◌||◌, if◌then◌else◌, List, [], ◌∷◌, Option, Some, None, is_some, option_map, refl, sym, ap, ◌∙◌}
use Rattle.std.specs.List.{position, position_from, list_any}
use Rattle.std.proofs.lemmas.Iterator.Adapters.{position_from-zero}
use Rattle.cc_mnf.specs.Scopes.{bound_or_free}
use Rattle.cc_capture.specs.declared.var.Var.TheVariants.{Bound}

some_from : {X : Type 0} (p : X → Bool) (index : ℕ) (list : List X) → is_some (position_from p index list) ≡ list_any p list
some_from p index [] = refl
some_from p index (first ∷ rest) = by (p first) (some_from p (index + 1) rest)
  where
    by : (b : Bool) → is_some (position_from p (index + 1) rest) ≡ list_any p rest → is_some (if b then Some index else position_from p (index + 1) rest) ≡ (b || list_any p rest)
    by true later = refl
    by false later = later

some_position : {X : Type 0} (p : X → Bool) (list : List X) → is_some (position p list) ≡ list_any p list
some_position p list = ap is_some (position_from-zero p list) ∙ some_from p 0 list

-- what has no position is none of the list
pub no_position : {X : Type 0} (p : X → Bool) (list : List X) → position p list ≡ None → list_any p list ≡ false
no_position p list e = sym (some_position p list) ∙ ap is_some e

either : (one other : Option ℕ) → is_some (bound_or_free one other) ≡ (is_some one || is_some other)
either (Some index) other = refl
either None (Some position) = refl
either None None = refl

-- a variable is seen among binders or names
pub some_variable : {X Y : Type 0} (p : X → Bool) (binders : List X) (q : Y → Bool) (names : List Y) → is_some (bound_or_free (position p binders) (position q names)) ≡ (list_any p binders || list_any q names)
some_variable p binders q names =
    either (position p binders) (position q names)
    ∙ ap (λ b. b || is_some (position q names)) (some_position p binders) ∙ ap (λ b. list_any p binders || b) (some_position q names)

bound : (one : Option ℕ) → is_some (option_map Bound one) ≡ is_some one
bound (Some index) = refl
bound None = refl

-- a variable of types is seen among binders alone
pub some_bound : {X : Type 0} (p : X → Bool) (binders : List X) → is_some (option_map Bound (position p binders)) ≡ list_any p binders
some_bound p binders = bound (position p binders) ∙ some_position p binders
