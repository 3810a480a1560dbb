-- Contexts that extend another.
use Rattle.std.proofs.Common.{◌≡◌, ℕ, List, [], ◌∷◌, ◌++◌, Some}
use Rattle.cc_capture.specs.declared.var.Elem.{Elem}
use Rattle.cc_capture.specs.Sets.{Set}
use Rattle.cc_core.specs.Contexts.{Bind, TermEntry, Context, lookup}
use Rattle.cc_core.specs.Subcapturing.{Subcaptures, variable, SubcapturesSet}
use Rattle.cc_core.proofs.Lookups.{lookup-older}
use Rattle.cc_core.proofs.SubcapturingLemmas.{subcaptures_along}
use Rattle.cc_typing_laws.specs.ContextMaps.{Extends, unchanged, added}

pub extends_older : {entry : Bind} {context longer : Context} → Extends (entry ∷ context) longer → Extends context longer
extends_older {entry = entry} unchanged = added entry unchanged
extends_older (added newest rest) = added newest (extends_older rest)

pub extends_more : (later : List Bind) (context : Context) → Extends context (later ++ context)
extends_more [] context = unchanged
extends_more (entry ∷ later) context = added entry (extends_more later context)

pub extends_transitive : {context longer longest : Context} → Extends context longer → Extends longer longest → Extends context longest
extends_transitive first unchanged = first
extends_transitive first (added newest rest) = added newest (extends_transitive first rest)

pub lookup-extends : {context longer : Context} → Extends context longer → (position : ℕ) (entry : Bind) → lookup context position ≡ Some entry → lookup longer position ≡ Some entry
lookup-extends unchanged position entry there = there
lookup-extends (added {longer = longer} newest rest) position entry there = lookup-older newest longer position entry (lookup-extends rest position entry there)

pub subcaptures_extends : {context longer : Context} {e : Elem} {set : Set} → Extends context longer → Subcaptures context e set → Subcaptures longer e set
subcaptures_extends {longer = longer} more below =
    subcaptures_along below longer (λ position shape declared above there each. variable (lookup-extends more position (TermEntry shape declared) there) each)

pub subcaptures_set_extends : {context longer : Context} → Extends context longer → (left right : Set) → SubcapturesSet context left right → SubcapturesSet longer left right
subcaptures_set_extends more left right below e here = subcaptures_extends more (below e here)
