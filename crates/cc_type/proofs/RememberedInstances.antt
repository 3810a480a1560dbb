-- What is remembered of type functions is what they give.
use Rattle.std.proofs.Common.{◌≡◌, true, nat_le, sym, ap, ◌∙◌}
use Rattle.cc_capture.specs.declared.var.Var.{Var}
use Rattle.cc_capture.specs.Variables.{same_variable}
use Rattle.cc_capture.proofs.Equality.{same_variable-decides}
use Rattle.cc_core.specs.declared.types.Shape.{Shape}
use Rattle.cc_core.specs.declared.types.Ty.{Ty}
use Rattle.cc_core.specs.Equality.{same_shape, same_type}
use Rattle.cc_core.specs.Sizes.{type_size}
use Rattle.cc_core.specs.Substitution.{replaced_type, replaced_type_by_shape}
use Rattle.cc_core.specs.TermViews.{shape_of, type_of}
use Rattle.cc_core.proofs.Comparisons.{same_shape-decides, same_type-decides}
use Rattle.cc_checking.specs.Inference.{greatest_size}

-- Where a remembered type `inner` under a binder and a remembered shape `by` are those that are given, what was made of
-- them is what is to be made.
pub remembered_is :
    (made inner given x y : Ty) (by put a b : Shape)
    → same_type (type_of made) (replaced_type_by_shape (shape_of by) (type_of inner)) ≡ true
    → a ≡ by → b ≡ put → same_shape (shape_of a) (shape_of b) ≡ true
    → x ≡ inner → y ≡ given → same_type (type_of x) (type_of y) ≡ true
    → replaced_type_by_shape (shape_of put) (type_of given) ≡ type_of made
remembered_is made inner given x y by put a b is p q shapes r s types =
    let e : shape_of by ≡ shape_of put =
    sym (ap (λ (z : Shape). shape_of z) p) ∙ (same_shape-decides (shape_of a) (shape_of b)).0 shapes ∙ ap (λ (z : Shape). shape_of z) q in
    let f : type_of inner ≡ type_of given =
    sym (ap (λ (z : Ty). type_of z) r) ∙ (same_type-decides (type_of x) (type_of y)).0 types ∙ ap (λ (z : Ty). type_of z) s in
    sym ((same_type-decides (type_of made) (replaced_type_by_shape (shape_of by) (type_of inner))).0 is
    ∙ (λ i. replaced_type_by_shape (e i) (f i)))

-- What was made, and copies of what it was made of, are remembered.
pub kept_is :
    (made ty gives inner : Ty) (put by : Shape)
    → type_of ty ≡ replaced_type_by_shape (shape_of by) (type_of gives)
    → type_of made ≡ type_of ty → inner ≡ gives → put ≡ by
    → same_type (type_of made) (replaced_type_by_shape (shape_of put) (type_of inner)) ≡ true
kept_is made ty gives inner put by is p q r =
    (same_type-decides (type_of made) (replaced_type_by_shape (shape_of put) (type_of inner))).1
    (p ∙ is ∙ sym (λ i. replaced_type_by_shape (shape_of (r i)) (type_of (q i))))

-- and so is that it is not too large
pub kept_fits :
    (made ty : Ty) → nat_le (type_size (type_of ty)) greatest_size ≡ true → type_of made ≡ type_of ty
    → nat_le (type_size (type_of made)) greatest_size ≡ true
kept_fits made ty fits p = ap (λ t. nat_le (type_size t) greatest_size) p ∙ fits

-- So it is of a remembered type under a parameter and a remembered variable,
pub remembered_call_is :
    (made inner given x y : Ty) (by put : Var)
    → same_type (type_of made) (replaced_type by (type_of inner)) ≡ true
    → same_variable by put ≡ true
    → x ≡ inner → y ≡ given → same_type (type_of x) (type_of y) ≡ true
    → replaced_type put (type_of given) ≡ type_of made
remembered_call_is made inner given x y by put is variables r s types =
    let e : by ≡ put = (same_variable-decides by put).0 variables in
    let f : type_of inner ≡ type_of given =
    sym (ap (λ (z : Ty). type_of z) r) ∙ (same_type-decides (type_of x) (type_of y)).0 types ∙ ap (λ (z : Ty). type_of z) s in
    sym ((same_type-decides (type_of made) (replaced_type by (type_of inner))).0 is
    ∙ (λ i. replaced_type (e i) (f i)))

-- and of copies of what was made for them.
pub kept_call_is :
    (made ty gives inner : Ty) (by : Var)
    → type_of ty ≡ replaced_type by (type_of gives)
    → type_of made ≡ type_of ty → inner ≡ gives
    → same_type (type_of made) (replaced_type by (type_of inner)) ≡ true
kept_call_is made ty gives inner by is p q =
    (same_type-decides (type_of made) (replaced_type by (type_of inner))).1
    (p ∙ is ∙ sym (λ i. replaced_type by (type_of (q i))))
