-- The place where a term starts.
use Rattle.std.proofs.Common.{◌≡◌, refl}
use Rattle.cc_core.specs.Places.{Spots, spots, places_around}
use Rattle.cc_core.specs.declared.terms.Form.{Form}
use Rattle.cc_core.specs.declared.terms.Form.TheVariants as forms

pub spots_around : (own : Spots) (form : Form) → spots (places_around own form) ≡ own
spots_around own (forms.Var v) = refl
spots_around own (forms.Lit l) = refl
spots_around own (forms.Fun' takes p body at first second) = refl
spots_around own (forms.TFun' bound p body at first second) = refl
spots_around own (forms.Boxed v) = refl
spots_around own (forms.App v w) = refl
spots_around own (forms.TApp v s) = refl
spots_around own (forms.Unbox o v) = refl
spots_around own (forms.Let' note p right at first second q body at' first' second') = refl
spots_around own (forms.Prim o v w) = refl
spots_around own (forms.If' note v p positive at first second q negative at' first' second') = refl
spots_around own (forms.Repeat v w) = refl
spots_around own (forms.Operate o v w) = refl
spots_around own (forms.Boundary' gives p body at first second) = refl
spots_around own (forms.Leave gives v w) = refl
