-- Small conversations.
use Rattle.std.proofs.Common.{◌≡◌, ◌≤◌, true, false, List, [], ◌∷◌, Some, None, inl, refl, sym, ap, ◌∙◌, arith}
use Rattle.std.specs.Prelude.{codes, nat_le}
use Rattle.std.proofs.lemmas.Bool.Decides.{nat_tests}
use Rattle.cc_item_reading.specs.Sayings.{size, item_limit}
use Rattle.cc_item_reading.specs.AsideLines.{aside_with, aside_of}
use Rattle.cc_item_reading.proofs.AsideWords.{none_aside}
use Rattle.std.specs.Fmt.{digits}
use Rattle.std.specs.Str.{bytes_eq}
use Rattle.unicode_ident.proofs.Computing.{unicode_ident}
use lib.Utf8.{encode}
use Rattle.cc_base.specs.Names.{IsName, is_reserved, reserved_words}
use Rattle.cc_base.specs.declared.device.DeviceDecl.{DeviceDecl}
use Rattle.cc_base.specs.declared.device.Kind.TheVariants.{Console}
use Rattle.cc_job.proofs.HeadLaws.{head_of-item, head_for, item_from, item_from-head, some_same}
use Rattle.cc_words.proofs.NameBytes.{name_of-encoded}
use Rattle.cc_job.specs.declared.head.Head.TheVariants.{Device}
use Rattle.cc_job.specs.declared.job.Command.TheVariants.{Put, Drop, Policy}
use Rattle.cc_job.specs.JobExamples.{rule}
use Rattle.cc_job.specs.Jobs.{Item, Declares, Commands, item_text, item_rules, item_lines, IsItem, text}
use Rattle.cc_job.specs.Reading.{head_of, head_with, command_with, device_of, kind_of, kind_with, put_of, verify_of, policy_of, replay_of, drop_of, check_of, sig_of, derive_of, run_of, tasks_of, audit_of, guard_of, explain_of}
use Rattle.cc_words.specs.Lines.{Line}
use Rattle.cc_words.specs.Words.{name_of}
use Rattle.cc_replies.specs.ReplyTexts.{PutDone, DropDone, DropRefused, PolicySet}
use Rattle.cc_base.specs.declared.code.Code.TheVariants.{E32}
use Rattle.cc_conversation.specs.ConversationExamples as example
use Rattle.cc_conversation.specs.Conversations.{beginning, behind, Moment, MaySay, GoesOn}
use Rattle.cc_conversation.specs.Conversations.IsSpoken.{nothing, stranger, opened}
use Rattle.cc_conversation.specs.Conversations.Says.{rests, begins, ends, goes_on}

m_is : IsName (codes "m")
unfolding encode unicode_ident is_reserved reserved_words
m_is = refl

-- lines that are short, by their count
fits : (lines : List Line) → nat_le (size lines) item_limit ≡ true → size lines ≤ item_limit
fits lines h = grind (arith, nat_tests)

pub nothing_is_asked : example.NothingIsAsked
nothing_is_asked = record { nothing = nothing; opened = opened (rests refl) }

pub strangers_end_it : example.StrangersEndIt
strangers_end_it = stranger (λ e. let no : false ≡ true = ap (bytes_eq (codes "capc 1")) e in cc) (fits (codes "capc 2" ∷ []) refl)

pub replies_end_with_an_empty_line : example.RepliesEndWithAnEmptyLine
unfolding encode digits unicode_ident is_reserved reserved_words
replies_end_with_an_empty_line =
    opened
    (goes_on {moment = beginning} (Commands (Policy (rule false None None ∷ []))) ([] ∷ codes "drop m" ∷ codes "put m 2" ∷ codes "policy 0" ∷ [] ∷ codes "drop m" ∷ [])
    (text (codes "policy 1" ∷ [] ∷ [])) _ false true (((tt, tt), tt), omega arith) refl (fits (item_lines (Commands (Policy (rule false None None ∷ [])))) refl) (PolicySet 1, refl, refl, refl)
    (goes_on (Commands (Drop (codes "m"))) (codes "put m 2" ∷ codes "policy 0" ∷ [] ∷ codes "drop m" ∷ [])
    (text (codes "drop m refused E32" ∷ [] ∷ [])) _ true false m_is refl (fits (item_lines (Commands (Drop (codes "m")))) refl) (DropRefused (codes "m") E32, refl, refl, refl)
    (goes_on (Commands (Put (codes "m") (text (codes "policy 0" ∷ [] ∷ [])))) (codes "drop m" ∷ [])
    (text (codes "put m" ∷ [] ∷ [])) _ false false (m_is, refl, omega arith) refl (fits (item_lines (Commands (Put (codes "m") (text (codes "policy 0" ∷ [] ∷ []))))) refl) (PutDone (codes "m"), refl, refl, refl)
    (goes_on (Commands (Drop (codes "m"))) [] (text (codes "drop m" ∷ [] ∷ [])) [] false false m_is refl (fits (item_lines (Commands (Drop (codes "m")))) refl)
    (DropDone (codes "m"), refl, refl, refl) (rests refl)))))

pub lines_are_missing : example.LinesAreMissing
unfolding encode digits unicode_ident is_reserved reserved_words
lines_are_missing = record {
  text = opened
      (goes_on {moment = beginning} (Commands (Policy [])) (codes "put m 2" ∷ codes "policy 0" ∷ []) (text (codes "policy 0" ∷ [] ∷ [])) [] false false
      (tt, omega arith) refl (fits (item_lines (Commands (Policy []))) refl) (PolicySet 0, refl, refl, refl)
      (begins (λ e. cc) (Commands (Put (codes "m") (text (codes "policy 0" ∷ [] ∷ []))), [], [], (m_is, refl, omega arith), refl) (fits (codes "put m 2" ∷ codes "policy 0" ∷ []) refl)));
  rules = opened (begins (λ e. cc)
      (Commands (Policy (rule false None None ∷ rule false None None ∷ [])), codes "deny * *", [], (((tt, tt), ((tt, tt), tt)), omega arith), refl) (fits (codes "policy 2" ∷ codes "deny * *" ∷ []) refl));
}

first_line_is : {x y : Line} {xs ys : List Line} → x ∷ xs ≡ y ∷ ys → x ≡ y
first_line_is {x} {y} {xs} {ys} e = cc

is_item : (moment : Moment) (item : Item) → MaySay moment item → IsItem item
is_item moment (Declares device) may = may.0
is_item moment (Commands command) may = may

-- no item goes on with a line that says nothing
says_nothing : (moment : Moment) (line : Line) → head_of line ≡ None → GoesOn moment (line ∷ []) → ⊥
says_nothing moment line none goes =
    let told : Some (head_for goes.0) ≡ None =
    sym (head_of-item goes.0 (is_item moment goes.0 goes.2)) ∙ ap head_of (first_line_is goes.3) ∙ none in
    cc

no_aside : aside_of (codes "policy  0") ≡ None
unfolding aside_of aside_with
no_aside = refl

console_is_no_aside : aside_of (codes "device out console") ≡ None
unfolding aside_of aside_with
console_is_no_aside = refl

two_spaces : head_of (codes "policy  0") ≡ None
unfolding head_of head_with command_with device_of put_of verify_of policy_of replay_of drop_of check_of sig_of derive_of run_of tasks_of audit_of guard_of explain_of
two_spaces = refl

-- behind a command none goes on with the line of a device
late_device : (moment : Moment) (line : Line) (device : DeviceDecl) → moment.begun ≡ true → head_of line ≡ Some (Device device)
    → GoesOn moment (line ∷ []) → ⊥
late_device moment line device begun is (Declares other, missing, may, e) =
    let early : true ≡ false = sym begun ∙ may.1.early in cc
late_device moment line device begun is (Commands command, missing, may, e) =
    let same : head_for (Commands command) ≡ Device device =
    some_same _ _ (sym (head_of-item (Commands command) may) ∙ ap head_of (first_line_is e) ∙ is) in
    let declares : Commands command ≡ Declares device =
    sym (item_from-head (Commands command)) ∙ ap (λ head. item_from head (item_text (Commands command)) (item_rules (Commands command))) same in
    cc

out_is : name_of (codes "out") ≡ Some (codes "out")
unfolding encode unicode_ident is_reserved reserved_words
out_is = name_of-encoded (codes "out") refl

console : head_of (codes "device out console") ≡ Some (Device (record { name = codes "out"; kind = Console }))
unfolding head_of head_with command_with device_of kind_of kind_with
console = rw out_is refl

pub bad_lines_end_it : example.BadLinesEndIt
unfolding encode digits unicode_ident is_reserved reserved_words
bad_lines_end_it = record {
  words = opened
      (goes_on {moment = beginning} (Commands (Policy [])) ([] ∷ codes "policy  0" ∷ codes "policy 0" ∷ []) (text (codes "policy 0" ∷ [] ∷ []))
      [] false false (tt, omega arith) refl (fits (item_lines (Commands (Policy []))) refl) (PolicySet 0, refl, refl, refl)
      (ends [] (codes "policy  0") (codes "policy 0" ∷ []) 4 refl (inl refl) (λ _. none_aside (codes "policy  0") no_aside) (says_nothing (behind beginning (Commands (Policy []))) _ two_spaces) (fits (codes "policy  0" ∷ []) refl) refl));
  device = opened
      (goes_on {moment = beginning} (Commands (Policy [])) (codes "device out console" ∷ []) (text (codes "policy 0" ∷ [] ∷ []))
      [] false false (tt, omega arith) refl (fits (item_lines (Commands (Policy []))) refl) (PolicySet 0, refl, refl, refl)
      (ends [] (codes "device out console") [] 3 refl (inl refl) (λ _. none_aside (codes "device out console") console_is_no_aside) (late_device (behind beginning (Commands (Policy []))) _ _ refl console) (fits (codes "device out console" ∷ []) refl) refl));
}
