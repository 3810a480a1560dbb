-- The verdict of one definition, in the context of the devices, the imported definitions and those before it.
use Rattle.std.specs.Prelude.{◌≡◌, ◌⊎◌, ℕ, suc, nat_lt, Bool, List, [], ◌∷◌, length, Option, Some, None}
use Rattle.std.specs.Prelude.{if◌then◌else◌}
use Rattle.std.specs.Option.{option_and_then}
use Rattle.cc_base.specs.declared.code.Code.{Code}
use Rattle.cc_base.specs.declared.code.Code.TheVariants.{E14, E17}
use Rattle.cc_base.specs.declared.place.Place.{Place}
use Rattle.cc_capture.specs.Sets.{Set, empty}
use Rattle.cc_core.specs.Shapes.{CapturingType, capturing}
use Rattle.cc_core.specs.Terms.{Note, Absent, Written, Own, Term}
use Rattle.cc_core.specs.Contexts.{Bind, TermEntry, TypeEntry, Context, entry_of}
use Rattle.cc_core.specs.Traversal.{act_note}
use Rattle.cc_core.specs.Substitution.{filling_in, filled_type, filled_term}
use Rattle.cc_core.specs.Places.{Places, spots}
use Rattle.cc_checking.specs.Avoidance.{Positive, avoided_type}
use Rattle.cc_checking.specs.Outcomes.{Placed, Outcome, NoAnswer, Refused, Found, finds, ◌>>=◌, ◌>>◌, found_or}
use Rattle.cc_checking.specs.Fillings.{Filling, AllServed, IsLeast, FailsFirst}
use Rattle.cc_checking.specs.Inference.{Ways, limited, noted, below, inferred}

-- A definition: the place of its name, the type written for it, whether its name is visible in its own right side,
-- and the right side with its places.
pub record Definition : Type 0 where
  pub name_at : Place
  pub note : Note
  pub recursive : Bool
  pub right : Term
  pub places : Places

-- the declared set of an entry
abbrev pub declared_set : Bind → Set
declared_set (TermEntry shape set) = set
declared_set (TypeEntry bound) = empty

-- The type that others see: each position of the context from the first definition on is avoided, the latest first.
abbrev pub signature_of : ℕ → Context → CapturingType → Option CapturingType
signature_of devices [] type = Some type
signature_of devices (newest ∷ older) type =
    if nat_lt (length older) devices
    then Some type
    else option_and_then (signature_of devices older)
    (avoided_type Positive (length older) (declared_set newest) type)

-- What is found for a right side: its type, which is the one that it was compared with, if there is one; that one as
-- it is written; the completed right side; and the signature, where it comes before the right side.
pub record Checking : Type 0 where
  pub note : Note
  pub completed : Term
  pub type : CapturingType
  pub settled : Option CapturingType

-- these four
abbrev pub checking : Note → Term → CapturingType → Option CapturingType → Checking
checking note completed type settled =
    record { note = note; completed = completed; type = type; settled = settled }

-- a definition whose own name is not visible: its right side, and then what is written for its type
abbrev pub plain_checked : Ways → Context → Definition → Outcome Checking
plain_checked ways globals definition = do
  found ← inferred ways (length globals) globals definition.right definition.places
  named ← noted ways.compare (length globals) (spots definition.places).at globals definition.note found.type
  finds (checking named.note found.completed named.type None)

-- a right side below its signature, where the name has the signature's type
abbrev pub recursion_checked : Ways → Context → Definition → CapturingType → Outcome Checking
recursion_checked ways globals definition signature = do
  found ← inferred ways (suc (length globals)) (entry_of signature ∷ globals) definition.right definition.places
  below ways.compare (spots definition.places).at (entry_of signature ∷ globals) found.type signature
  finds (checking (Written signature.shape signature.set) found.completed signature (Some signature))

-- A recursive definition: its signature comes from what is written, before its right side. One without a written type
-- is no definition of the language.
abbrev pub recursive_checked : Ways → ℕ → Context → Definition → Note → Outcome Checking
recursive_checked ways devices globals definition (Written shape set) = do
  signature ← found_or E17 definition.name_at (signature_of devices globals (capturing shape set))
  recursion_checked ways globals definition signature
recursive_checked ways devices globals definition Absent = Refused E14 definition.name_at
recursive_checked ways devices globals definition (Own shape) = Refused E14 definition.name_at

-- what is found for a definition, before any hole is filled
abbrev pub checked : Ways → ℕ → Context → Definition → Outcome Checking
checked ways devices globals definition =
    if definition.recursive
    then recursive_checked ways devices globals definition definition.note
    else plain_checked ways globals definition

-- it is found, with comparisons that are at their ends
abbrev pub IsChecked : ℕ → Context → Definition → Outcome Checking → Type 0
IsChecked devices globals definition outcome =
    (steps : ℕ) × (checked (limited steps) devices globals definition ≡ outcome) × (outcome ≡ NoAnswer → ⊥)

-- An accepted definition: the type that its right side was compared with, if there is one; the right side with all
-- omitted sets put in; its type; and the type that others see.
pub record Accepted : Type 0 where
  pub note : Note
  pub filled : Term
  pub type : CapturingType
  pub signature : CapturingType

-- a definition is accepted, or refused with a code and a place
pub data Verdict : Type 0 where
  IsAccepted : (accepted : Accepted) → Verdict
  IsRefused : (code : Code) (at : Place) → Verdict

-- the signature of a type, unless it is settled
abbrev pub settled_or : Option CapturingType → ℕ → Context → CapturingType → Option CapturingType
settled_or (Some signature) devices globals type = Some signature
settled_or None devices globals type = signature_of devices globals type

-- the signature of the filled type, unless it is settled before
abbrev pub signature_under : Filling → ℕ → Context → Checking → Option CapturingType
signature_under filling devices globals found =
    settled_or found.settled devices globals (filled_type filling found.type)

-- what is accepted where the signature is this
abbrev pub accepted_with : Filling → Checking → CapturingType → Accepted
accepted_with filling found signature =
    record {
      note = act_note (filling_in filling) 0 found.note;
      filled = filled_term filling found.completed;
      type = filled_type filling found.type;
      signature = signature;
    }

-- where all that is asked is served, only the signature may fail
abbrev pub signature_verdict : Filling → Definition → Checking → Option CapturingType → Verdict
signature_verdict filling definition found (Some signature) = IsAccepted (accepted_with filling found signature)
signature_verdict filling definition found None = IsRefused E17 definition.name_at

-- The verdict for what is found: a refusal is the verdict. Else all that was asked is judged under the least filling,
-- and the first that it does not serve is the verdict; and if it serves all, the signature of the filled type
-- decides.
abbrev pub Deserves : ℕ → Context → Definition → Outcome Checking → Verdict → Type 0
Deserves devices globals definition NoAnswer verdict = ⊥
Deserves devices globals definition (Refused code at) verdict = verdict ≡ IsRefused code at
Deserves devices globals definition (Found found asked) verdict =
    (filling : Filling) × IsLeast (length globals) asked filling
    × (((code : Code) × (at : Place) × FailsFirst filling asked code at × (verdict ≡ IsRefused code at))
    ⊎ (AllServed filling asked
    × (verdict ≡ signature_verdict filling definition found (signature_under filling devices globals found))))

-- the definition has the verdict, where the first positions of the context are devices
abbrev pub HasVerdict : ℕ → Context → Definition → Verdict → Type 0
HasVerdict devices globals definition verdict =
    (outcome : Outcome Checking) × IsChecked devices globals definition outcome
    × Deserves devices globals definition outcome verdict

-- The definition has an algorithmic type under the filling: inference and the comparison find a type, the filling
-- serves all that they ask, and the filled type has a signature.
abbrev pub HasAlgorithmicType : ℕ → Context → Definition → Filling → Type 0
HasAlgorithmicType devices globals definition filling =
    (found : Checking) × (asked : List Placed) × IsChecked devices globals definition (Found found asked)
    × AllServed filling asked
    × ((signature : CapturingType) × (signature_under filling devices globals found ≡ Some signature))
