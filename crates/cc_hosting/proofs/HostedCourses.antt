-- What comes of a run that is refused, and of one behind what is told before it.
use Rattle.std.proofs.Common.{◌≡◌, ℕ, ◌+◌, Bool, true, false, List, [], ◌∷◌, ◌++◌, length, Option, Some, None, Result, Ok, Err, refl, sym, ap, subst, ◌∙◌, arith, append_assoc, append-nil}
use Rattle.std.proofs.KnownBytes.{Appends-nil, Appends-trans}
use Rattle.std.specs.Io.KnownBytes.{Appends, Consumes}
use Rattle.cc_io.proofs.PassedPieces.{front_none, front_second}
use Rattle.cc_io.specs.Wholes.{AppendsFront}
use Rattle.cc_line_reading.specs.LineReading.{Held}
use Rattle.cc_live.proofs.HeardLines.{hears_nothing}
use Rattle.cc_live.specs.LiveEnds.{Listens, Tells, BeginsText, ComesTo, ReadsBy, RunsLive}
use Rattle.cc_live.specs.LiveRuns.{Live, Over, Course, behind_text}
use Rattle.cc_live.specs.declared.running.LiveError.{LiveError}
use Rattle.cc_live.specs.declared.running.LiveError.TheVariants as errors
use Rattle.cc_base.specs.declared.code.Code.TheVariants.{E37}
use Rattle.cc_binding.specs.Binding.{first_beyond, unused_rules}
use Rattle.cc_entry_laws.specs.PresentEntries.{CheckedEntry}
use Rattle.cc_hosting.specs.HostedRuns.{refused_course, refusal_text, beyond_text, beginning_text, course_behind, hosted, IsTold, RefusesSo}
use Rattle.cc_policy.specs.declared.policy.Rule.{Rule}
use Rattle.cc_replies.specs.PolicyReplies.{are_allowed}
use Rattle.cc_verdicts.specs.PresentTexts.{Texts}

consumed_none : (left : Option (List ℕ)) → Consumes left left []
consumed_none None = tt
consumed_none (Some xs) = refl

-- nothing was heard, since memory lacked
lacks : (held : Held) (left : Option (List ℕ)) → Listens {T = Bool} held held left left [] (Err errors.NoMemory)
lacks held left = record { between = held; rest = left; first = hears_nothing held left; fails = ([], consumed_none left) }

-- a text with which what is told begins was not told whole
pub not_told : (course : Course) (text : List ℕ) (error : LiveError) (held : Held) (left : Option (List ℕ)) (count : ℕ)
    (before after : Option (List ℕ)) → BeginsText text (course []) → IsTold {T = Unit {0}} before after text (Err error)
    → RunsLive course held held left left count count before after (Err error)
not_told course text errors.ReadFault held left count before after begins told = absurd told
not_told course text errors.TooLong held left count before after begins told = absurd told
not_told course text errors.NoMemory held left count before after begins told =
    record { heard = []; within = tt; text = text; listens = lacks held left; counts = omega arith; tells = told; comes = begins }
not_told course text errors.WriteFault held left count before after begins told =
    record { heard = []; within = tt; text = text; listens = hears_nothing held left; counts = omega arith; tells = told; comes = begins }
not_told course text errors.Ended held left count before after begins told = absurd told
not_told course text errors.BadLine held left count before after begins told = absurd told

-- a run was refused
pub refused_told : (text : List ℕ) (held : Held) (left : Option (List ℕ)) (count : ℕ) (before after : Option (List ℕ)) (result : Result Bool LiveError)
    → RefusesSo before after text result → RunsLive (refused_course text) held held left left count count before after result
refused_told text held left count before after (Ok refused) (told, so) = record {
  heard = [];
  within = tt;
  text = text;
  listens = hears_nothing held left;
  counts = omega arith;
  tells = told;
  comes = ap (λ it. record { text = text; standing = Over it [] }) (sym so);
}
refused_told text held left count before after (Err error) (told, so) =
    not_told (refused_course text) text error held left count before after ([], sym (append-nil text)) (at error told)
  where
    at : (error : LiveError) → IsTold {T = Bool} before after text (Err error) → IsTold {T = Unit {0}} before after text (Err error)
    at errors.ReadFault it = it
    at errors.TooLong it = it
    at errors.NoMemory it = it
    at errors.WriteFault it = it
    at errors.Ended it = it
    at errors.BadLine it = it

-- behind a text that was told whole
tells_behind : (before there after : Option (List ℕ)) (text more : List ℕ) (result : Result Bool LiveError) → Appends before there text
    → Tells there after more result → Tells before after (text ++ more) result
tells_behind before there after text more (Ok answer) told tells = Appends-trans before there after text more told tells
tells_behind before there after text more (Err errors.ReadFault) told tells = Appends-trans before there after text more told tells
tells_behind before there after text more (Err errors.TooLong) told tells = Appends-trans before there after text more told tells
tells_behind before there after text more (Err errors.NoMemory) told tells = front_second before there after text more told tells
tells_behind before there after text more (Err errors.WriteFault) told tells = front_second before there after text more told tells
tells_behind before there after text more (Err errors.Ended) told tells = Appends-trans before there after text more told tells
tells_behind before there after text more (Err errors.BadLine) told tells = Appends-trans before there after text more told tells

begins_behind : (text more : List ℕ) (it : Live) → BeginsText more it → BeginsText (text ++ more) (behind_text text it)
begins_behind text more it (behind, is) = (behind, ap (λ t. text ++ t) is ∙ sym (append_assoc text more behind))

comes_behind : (text more : List ℕ) (it : Live) (result : Result Bool LiveError) → ComesTo it more result
    → ComesTo (behind_text text it) (text ++ more) result
comes_behind text more it (Ok refused) comes = ap (behind_text text) comes
comes_behind text more it (Err errors.ReadFault) comes = ap (behind_text text) comes
comes_behind text more it (Err errors.TooLong) comes = ap (behind_text text) comes
comes_behind text more it (Err errors.NoMemory) comes = begins_behind text more it comes
comes_behind text more it (Err errors.WriteFault) comes = begins_behind text more it comes
comes_behind text more it (Err errors.Ended) comes = ap (behind_text text) comes
comes_behind text more it (Err errors.BadLine) comes = ap (behind_text text) comes

pub runs_behind : (course : Course) (text : List ℕ) (old new : Held) (left later : Option (List ℕ)) (count counted : ℕ)
    (before there after : Option (List ℕ)) (result : Result Bool LiveError) → Appends before there text
    → RunsLive course old new left later count counted there after result
    → RunsLive (λ lines. behind_text text (course lines)) old new left later count counted before after result
runs_behind course text old new left later count counted before there after result told runs = record {
  heard = runs.heard;
  within = runs.within;
  text = text ++ runs.text;
  listens = runs.listens;
  counts = runs.counts;
  tells = tells_behind before there after text runs.text result told runs.tells;
  comes = comes_behind text runs.text (course runs.heard) result runs.comes;
}

-- what is answered for an entry, by the tests of the rules
pub hosted_denied : (names : List (List ℕ)) (rules : List Rule) (texts : Texts) (owner definition : List ℕ) (fuel : ℕ) (entry : CheckedEntry)
    → are_allowed names rules entry.module_name entry.authority ≡ false
    → hosted names rules texts owner definition fuel entry ≡ refused_course (refusal_text owner definition E37)
hosted_denied names rules texts owner definition fuel entry denied = rw denied refl

pub hosted_beyond : (names : List (List ℕ)) (rules : List Rule) (texts : Texts) (owner definition : List ℕ) (fuel : ℕ) (entry : CheckedEntry)
    (found : List ℕ × ℕ) → are_allowed names rules entry.module_name entry.authority ≡ true
    → first_beyond names rules (length entry.devices) entry.modules ≡ Some found
    → hosted names rules texts owner definition fuel entry ≡ refused_course (beyond_text names owner definition found)
hosted_beyond names rules texts owner definition fuel entry found allowed is = rw (allowed, is) refl

pub hosted_runs : (names : List (List ℕ)) (rules : List Rule) (texts : Texts) (owner definition : List ℕ) (fuel : ℕ) (entry : CheckedEntry)
    → are_allowed names rules entry.module_name entry.authority ≡ true
    → first_beyond names rules (length entry.devices) entry.modules ≡ None
    → hosted names rules texts owner definition fuel entry
    ≡ course_behind names fuel (beginning_text names owner definition entry.authority (unused_rules texts names rules)) entry
hosted_runs names rules texts owner definition fuel entry allowed is = rw (allowed, is) refl

-- along an equation of courses
pub runs_as : (one other : Course) (old new : Held) (left later : Option (List ℕ)) (count counted : ℕ) (before after : Option (List ℕ))
    (result : Result Bool LiveError) → one ≡ other → RunsLive other old new left later count counted before after result
    → RunsLive one old new left later count counted before after result
runs_as one other old new left later count counted before after result same runs =
    subst (λ course. RunsLive course old new left later count counted before after result) (sym same) runs

-- whether a read failed does not depend on what else is answered
pub reads_any : (error : LiveError) (count : ℕ) → ReadsBy {T = Unit {0}} count count (Err error) → ReadsBy {T = Bool} count count (Err error)
reads_any errors.ReadFault count it = it
reads_any errors.TooLong count it = it
reads_any errors.NoMemory count it = it
reads_any errors.WriteFault count it = it
reads_any errors.Ended count it = it
reads_any errors.BadLine count it = it
