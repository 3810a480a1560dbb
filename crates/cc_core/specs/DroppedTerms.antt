-- How many turns it takes to drop terms by a loop. It serves the code alone.
use Rattle.std.specs.Prelude.{ℕ, ◌+◌, ◌≤◌, Option, Some, None}
use Rattle.cc_base.specs.declared.place.Place.{Place}
use Rattle.cc_capture.specs.declared.var.Var.TheVariants.{Free}
use Rattle.cc_core.specs.declared.terms.Form.{Form}
use Rattle.cc_core.specs.declared.terms.Form.TheVariants as forms
use Rattle.cc_core.specs.declared.terms.Node.{Node}

-- a term with no parts, at no place
abbrev pub no_parts : Node
no_parts =
    let nowhere : Place = record { line = 0; col = 0 } in
    record { form = forms.Var (Free 0); at = nowhere; first = nowhere; second = nowhere }

-- the turns for a term
abbrev pub turns : Form → ℕ
turns (forms.Fun' takes p body at first second) = 1 + turns body
turns (forms.TFun' bound p body at first second) = 1 + turns body
turns (forms.Let' note p right at first second q body at' first' second') = 2 + (turns right + turns body)
turns (forms.If' note test p positive at first second q negative at' first' second') = 2 + (turns positive + turns negative)
turns (forms.Boundary' gives p body at first second) = 1 + turns body
turns _ = 0

-- the turns for terms that wait
abbrev pub turns_waiting : Form → ℕ
turns_waiting (forms.Fun' takes p body at first second) = 1 + turns body
turns_waiting (forms.TFun' bound p body at first second) = 1 + turns body
turns_waiting (forms.Let' note p right at first second q others at' first' second') = 1 + (turns right + turns_waiting others)
turns_waiting (forms.If' note test p positive at first second q others at' first' second') =
    1 + (turns positive + turns_waiting others)
turns_waiting (forms.Boundary' gives p body at first second) = 1 + turns body
turns_waiting _ = 0

-- no term that waits is larger than the limit
abbrev pub NoneLarger : (Node → ℕ) → ℕ → Form → Type 0
NoneLarger size limit (forms.Fun' takes p body at first second) =
    size (record { form = body; at = at; first = first; second = second }) ≤ limit
NoneLarger size limit (forms.TFun' bound p body at first second) =
    size (record { form = body; at = at; first = first; second = second }) ≤ limit
NoneLarger size limit (forms.Let' note p right at first second q others at' first' second') =
    (size (record { form = right; at = at; first = first; second = second }) ≤ limit) × NoneLarger size limit others
NoneLarger size limit (forms.If' note test p positive at first second q others at' first' second') =
    (size (record { form = positive; at = at; first = first; second = second }) ≤ limit) × NoneLarger size limit others
NoneLarger size limit (forms.Boundary' gives p body at first second) =
    size (record { form = body; at = at; first = first; second = second }) ≤ limit
NoneLarger size limit _ = Unit {0}
