-- Conversations with questions, by computation.
use Rattle.std.proofs.Common.{◌≡◌, ◌≤◌, ℕ, suc, Bool, true, false, List, [], ◌∷◌, ◌++◌, Some, None, length, inl, refl, sym, ap, subst, ◌∙◌, arith}
use Rattle.std.specs.Prelude.{◌||◌, codes, nat_le}
use Rattle.std.specs.Fmt.{digits}
use Rattle.std.specs.List.{IsDistinct}
use Rattle.std.proofs.lemmas.Bool.Decides.{nat_tests}
use lib.Utf8.{encode}
use Rattle.unicode_ident.proofs.Computing.{unicode_ident}
use Rattle.cc_base.specs.Names.{IsName, is_reserved, reserved_words}
use Rattle.cc_base.specs.declared.code.Code.TheVariants.{E02, E10}
use Rattle.cc_base.specs.declared.device.DeviceDecl.{DeviceDecl}
use Rattle.cc_base.specs.declared.device.Kind.TheVariants.{Console}
use Rattle.cc_base.specs.declared.place.Place.{Place}
use Rattle.cc_elaboration_reasons.specs.ElaborationCauses.{ElaborationCause, UnknownName, refused}
use Rattle.cc_elaboration_reasons.specs.ExplainedElaboration.{first_refusal}
use Rattle.cc_elaboration_reasons.specs.RefusedModules.{IsOfElaboration}
use Rattle.cc_item_reading.proofs.AsideWords.{none_aside}
use Rattle.cc_item_reading.proofs.ItemFronts.{none_says, none_stands}
use Rattle.cc_item_reading.specs.AsideLines.{why_of, aside_with, aside_of}
use Rattle.cc_item_reading.specs.Sayings.{aside_line, size, item_limit}
use Rattle.cc_item_reading.specs.declared.asides.Aside.TheVariants as asides
use Rattle.cc_job.specs.Jobs.{Commands, item_lines, text}
use Rattle.cc_job.specs.Reading.{head_of, head_with, command_with, device_of, kind_of, kind_with}
use Rattle.cc_job.specs.declared.head.Head.TheVariants.{Device}
use Rattle.cc_job.specs.declared.job.Command.TheVariants.{Put, Drop, Policy}
use Rattle.cc_mnf.specs.ElaboratedModules.{device_names}
use Rattle.cc_module_reasons.specs.ModuleReasons.{OfText, OfElaboration, of_text, of_elaboration}
use Rattle.cc_module_reasons.specs.WhyAnswers.{Why, NoSuchModule, NotRefused, RefusedSince, IsWhy, IsWhyBy, no_such_module, not_refused, refused_since}
use Rattle.cc_replies.specs.ReplyTexts.{PutDone, DropDone, PolicySet}
use Rattle.cc_text_reasons.proofs.Breaks.{text_front}
use Rattle.cc_text_reasons.proofs.RefusedTexts.{told}
use Rattle.cc_text_reasons.specs.TextReasons.{AtCharacter, Broken, HasTextReason}
use Rattle.cc_verdicts.proofs.PresentLaws.{present_verdicts_exist}
use Rattle.cc_verdicts.proofs.ReadingLaws.{text_has_one_reading}
use Rattle.cc_verdicts.specs.ModuleLaws.{NamesOfDevicesDiffer}
use Rattle.cc_verdicts.specs.ModuleVerdicts.{Finding, ModuleVerdict, IsAccepted, IsRefused, first_missing}
use Rattle.cc_verdicts.specs.PresentTexts.{Texts, ArePresent, text_of}
use Rattle.cc_verdicts.specs.Readings.{TextReading, IsTree, IsNoModule}
use Rattle.cc_why.specs.WhyTexts.{why_text, is_refusal}
use Rattle.cc_words.proofs.NameBytes.{name_of-encoded}
use Rattle.cc_words.specs.Lines.{Line}
use Rattle.cc_words.specs.Words.{name_of}
use Rattle.cc_worked_module_reasons.proofs.WorkedTextReasons.{broken}
use Rattle.cc_worked_replies.proofs.ComputedReplies.{AreJudged, are_judged, reply_computing}
use Rattle.cc_worked_replies.proofs.WorkedRuns.{alone, verdicts_of}
use Rattle.cc_worked_texts.proofs.ComputedModules.{text_computing, letters_computing}
use Rattle.cc_worked_texts.proofs.QuickTokens.{quick_reading, same_reading}
use Rattle.cc_conversation.specs.Conversations.{Moment, beginning, behind, why_course, Rests, EndedAt, Standing, Says, IsSpoken}
use Rattle.cc_conversation.specs.Conversations.IsSpoken.{opened}
use Rattle.cc_conversation.specs.Conversations.Says.{rests, ends, goes_on, runs}
use Rattle.cc_worked_conversations.specs.QuestionConversations as example

abbrev m : List ℕ
m = codes "m"

abbrev n : List ℕ
n = codes "n"

m_is : IsName m
unfolding encode unicode_ident is_reserved reserved_words
m_is = refl

n_is : IsName n
unfolding encode unicode_ident is_reserved reserved_words
n_is = refl

-- lines that are short, by their count
fits : (lines : List Line) → nat_le (size lines) item_limit ≡ true → size lines ≤ item_limit
fits lines h = grind (arith, nat_tests)

-- a module m of this line is present, and nothing else was said
abbrev texts_of : Line → Texts
texts_of line = (m, text (line ∷ [])) ∷ []

abbrev holding : Line → Moment
holding line = record { devices = []; begun = true; state = record { texts = texts_of line; rules = [] } }

-- a question is answered, and m is dropped behind it
answered : (total : ℕ) (line : Line) (name : List ℕ) (answer : Why) → IsName name → nat_le (size (aside_line (asides.Why name) ∷ [])) item_limit ≡ true
    → IsWhy [] (texts_of line) name answer
    → Says total (holding line) (aside_line (asides.Why name) ∷ codes "drop m" ∷ [])
    ((why_text name answer ++ 10 ∷ []) ++ text (codes "drop m" ∷ [] ∷ [])) (is_refusal answer || false) Rests
unfolding encode digits
answered total line name answer is short why =
    runs (why_course name answer) [] (codes "drop m" ∷ []) (why_text name answer) (text (codes "drop m" ∷ [] ∷ [])) (is_refusal answer) false
    (record {
      it = asides.Why name;
      may = is;
      short = fits (aside_line (asides.Why name) ∷ []) short;
      says = refl;
      comes = (answer, why, refl);
    }) tt refl
    (goes_on {moment = holding line} (Commands (Drop m)) [] (text (codes "drop m" ∷ [] ∷ [])) [] false false m_is refl
    (fits (item_lines (Commands (Drop m))) refl) (DropDone m, refl, refl, refl) (rests refl))

-- the module is put first
abbrev IsPut : Line → Type 0
IsPut line =
    (rest : List Line) (told : List ℕ) (refused : Bool)
    → Says (suc (length (codes "put m 1" ∷ line ∷ rest))) (holding line) rest told refused Rests
    → IsSpoken (codes "capc 1" ∷ codes "put m 1" ∷ line ∷ rest) (text (codes "put m" ∷ [] ∷ []) ++ told) refused Rests

number_put : IsPut (codes "def a = 1")
unfolding encode digits
number_put rest told refused said =
    opened
    (goes_on {moment = beginning} (Commands (Put m (text (codes "def a = 1" ∷ [])))) rest (text (codes "put m" ∷ [] ∷ [])) told false refused
    (m_is, refl, omega arith) refl (fits (item_lines (Commands (Put m (text (codes "def a = 1" ∷ []))))) refl) (PutDone m, refl, refl, refl) said)

mark_put : IsPut (codes "def a = @")
unfolding encode digits
mark_put rest told refused said =
    opened
    (goes_on {moment = beginning} (Commands (Put m (text (codes "def a = @" ∷ [])))) rest (text (codes "put m" ∷ [] ∷ [])) told false refused
    (m_is, refl, omega arith) refl (fits (item_lines (Commands (Put m (text (codes "def a = @" ∷ []))))) refl) (PutDone m, refl, refl, refl) said)

name_put : IsPut (codes "def a = y")
unfolding encode digits
name_put rest told refused said =
    opened
    (goes_on {moment = beginning} (Commands (Put m (text (codes "def a = y" ∷ [])))) rest (text (codes "put m" ∷ [] ∷ [])) told false refused
    (m_is, refl, omega arith) refl (fits (item_lines (Commands (Put m (text (codes "def a = y" ∷ []))))) refl) (PutDone m, refl, refl, refl) said)

-- no device, and one text
none_differ : NamesOfDevicesDiffer []
unfolding IsDistinct
none_differ = tt

one_present : (line : Line) → ArePresent (texts_of line)
unfolding reply_computing
one_present line = (tt, tt)

-- whatever verdicts the text has
by_verdicts : (line : Line) (name : List ℕ) (answer : Why)
    → ((verdicts : List ℕ → ModuleVerdict) → IsWhyBy [] (texts_of line) verdicts name answer) → IsWhy [] (texts_of line) name answer
by_verdicts line name answer why =
    let (verdicts, are) = present_verdicts_exist [] (texts_of line) none_differ (one_present line) in (verdicts, are, why verdicts)

not_present : IsWhy [] (texts_of (codes "def a = 1")) n NoSuchModule
not_present = by_verdicts (codes "def a = 1") n NoSuchModule (λ verdicts. no_such_module refl)

abbrev number_verdicts : List ℕ → ModuleVerdict
number_verdicts = verdicts_of [] (texts_of (codes "def a = 1"))

number_judged : AreJudged [] (texts_of (codes "def a = 1")) number_verdicts alone (m ∷ [])
unfolding reply_computing
number_judged = are_judged [] 12 (texts_of (codes "def a = 1")) number_verdicts alone (m ∷ []) tt (tt, tt) refl (refl, tt) (record { steps = refl; whole = refl })

abbrev is_accepted : ModuleVerdict → Bool
is_accepted (IsAccepted definitions) = true
is_accepted (IsRefused code at) = false

by_accepted : (verdict : ModuleVerdict) → number_verdicts m ≡ verdict → is_accepted verdict ≡ true
    → IsWhyBy [] (texts_of (codes "def a = 1")) number_verdicts m NotRefused
by_accepted (IsAccepted definitions) is e = not_refused refl is
by_accepted (IsRefused code at) is e = cc

accepted : IsWhy [] (texts_of (codes "def a = 1")) m NotRefused
unfolding reply_computing
accepted = (number_verdicts, number_judged.are, by_accepted (number_verdicts m) refl refl)

abbrev at : Place
at = record { line = 1; col = 9 }

mark_breaks : HasTextReason (text (codes "def a = @" ∷ [])) (Broken (AtCharacter 64)) at
unfolding letters_computing told text_front
mark_breaks = broken (text (codes "def a = @" ∷ [])) (codes "def a = ") (codes "@" ++ 10 ∷ []) at refl refl refl refl

no_module : (lines : List (List ℕ)) → lines ≡ codes "character U+0040" ∷ [] → IsWhy [] (texts_of (codes "def a = @")) m (RefusedSince E02 at lines)
unfolding digits
no_module lines is =
    by_verdicts (codes "def a = @") m (RefusedSince E02 at lines) (λ verdicts. refused_since {reason = OfText (Broken (AtCharacter 64))} refl (of_text mark_breaks) is)

-- a text without imports is a module whose first refusal is this one
abbrev Refuses : ElaborationCause → Place → TextReading → Type 0
Refuses cause place (IsTree tree) = (tree.imports ≡ []) × (first_refusal (device_names []) tree ≡ refused cause place)
Refuses cause place (IsNoModule code there) = ⊥

of_refusal : (its_text : List ℕ) (findings : List Finding) (cause : ElaborationCause) (place : Place) (reading : TextReading)
    → reading ≡ quick_reading its_text → Refuses cause place reading → IsOfElaboration [] its_text findings cause place
of_refusal its_text findings cause place (IsTree tree) reads (none, first) = record {
  tree = tree;
  reads = (text_has_one_reading its_text (IsTree tree)).1 (reads ∙ sym (same_reading its_text));
  found = ap (λ imports. first_missing imports findings) none;
  first = first;
}
of_refusal its_text findings cause place (IsNoModule code there) reads none = absurd none

name_unknown : (findings : List Finding) → IsOfElaboration [] (text (codes "def a = y" ∷ [])) findings (UnknownName (codes "y")) at
unfolding text_computing
name_unknown findings =
    of_refusal (text (codes "def a = y" ∷ [])) findings (UnknownName (codes "y")) at (quick_reading (text (codes "def a = y" ∷ []))) refl (refl, refl)

unknown_name : IsWhy [] (texts_of (codes "def a = y")) m (RefusedSince E10 at (codes "name y" ∷ []))
unfolding encode
unknown_name =
    by_verdicts (codes "def a = y") m (RefusedSince E10 at (codes "name y" ∷ []))
    (λ verdicts. refused_since {reason = OfElaboration (UnknownName (codes "y"))} refl (of_elaboration (name_unknown _)) refl)

pub questions_are_answered : example.QuestionsAreAnswered
unfolding encode digits
questions_are_answered = record {
  not_present = number_put _ _ true (answered _ (codes "def a = 1") n NoSuchModule n_is refl not_present);
  accepted = number_put _ _ false (answered _ (codes "def a = 1") m NotRefused m_is refl accepted);
  no_module = mark_put _ _ false (answered _ (codes "def a = @") m (RefusedSince E02 at (codes "character U+0040" ∷ [])) m_is refl (no_module (codes "character U+0040" ∷ []) refl));
  unknown_name = name_put _ _ false (answered _ (codes "def a = y") m (RefusedSince E10 at (codes "name y" ∷ [])) m_is refl unknown_name);
}

-- a line with which nothing goes on, behind rules
ended : (line : Line) (byte : ℕ) (rest : List ℕ) → line ≡ byte ∷ rest → aside_of line ≡ None → head_of line ≡ None → nat_le (size (line ∷ [])) item_limit ≡ true
    → example.EndsIt line
unfolding encode digits
ended line byte rest is no_aside no_head short =
    subst (λ l. aside_of l ≡ None → head_of l ≡ None → nat_le (size (l ∷ [])) item_limit ≡ true → example.EndsIt l) (sym is)
    (λ no_aside no_head short.
    opened
    (goes_on {moment = beginning} (Commands (Policy [])) ((byte ∷ rest) ∷ codes "policy 0" ∷ []) (text (codes "policy 0" ∷ [] ∷ [])) [] false false
    (tt, omega arith) refl (fits (item_lines (Commands (Policy []))) refl) (PolicySet 0, refl, refl, refl)
    (ends [] (byte ∷ rest) (codes "policy 0" ∷ []) 3 refl (inl refl) (λ _. none_aside (byte ∷ rest) no_aside)
    (none_says [] true (byte ∷ rest) no_head) (fits ((byte ∷ rest) ∷ []) short) refl)))
    no_aside no_head short

pub bad_questions_end_it : example.BadQuestionsEndIt
unfolding aside_of aside_with why_of head_of head_with command_with
bad_questions_end_it = record {
  no_name = ended (codes "why") _ _ refl refl refl refl;
  two_names = ended (codes "why m n") _ _ refl refl refl refl;
  two_spaces = ended (codes "why  m") _ _ refl refl refl refl;
}

out_is : name_of (codes "out") ≡ Some (codes "out")
unfolding encode unicode_ident is_reserved reserved_words
out_is = name_of-encoded (codes "out") refl

abbrev out : DeviceDecl
out = record { name = codes "out"; kind = Console }

console : head_of (codes "device out console") ≡ Some (Device out)
unfolding head_of head_with command_with device_of kind_of kind_with
console = rw out_is refl

console_is_no_aside : aside_of (codes "device out console") ≡ None
unfolding aside_of aside_with
console_is_no_aside = refl

none_present : ArePresent []
unfolding reply_computing
none_present = tt

nothing_present : IsWhy [] [] m NoSuchModule
nothing_present = let (verdicts, are) = present_verdicts_exist [] [] none_differ none_present in (verdicts, are, no_such_module refl)

pub questions_end_declarations : example.QuestionsEndDeclarations
unfolding encode digits
questions_end_declarations =
    opened
    (runs {moment = beginning} (why_course m NoSuchModule) [] (codes "device out console" ∷ []) (why_text m NoSuchModule) [] true false
    (record {
      it = asides.Why m;
      may = m_is;
      short = fits (codes "why m" ∷ []) refl;
      says = refl;
      comes = (NoSuchModule, nothing_present, refl);
    }) tt refl
    (ends [] (codes "device out console") [] 3 refl (inl refl) (λ _. none_aside (codes "device out console") console_is_no_aside)
    (none_stands [] true (codes "device out console") (Device out) console refl) (fits (codes "device out console" ∷ []) refl) refl))
