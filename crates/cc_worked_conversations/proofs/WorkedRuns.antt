-- Conversations with live runs, by computation.
use Rattle.std.proofs.Common.{◌≡◌, ◌≤◌, ℕ, suc, Bool, true, false, List, [], ◌∷◌, ◌++◌, Some, Ok, Err, map, length, refl, sym, subst, arith}
use Rattle.std.specs.Prelude.{codes, nat_le, filter, Result}
use Rattle.std.specs.Fmt.{digits}
use Rattle.std.specs.List.{IsDistinct}
use Rattle.std.proofs.lemmas.Bool.Decides.{nat_tests}
use lib.Utf8.{encode}
use Rattle.unicode_ident.proofs.Computing.{unicode_ident}
use Rattle.cc_base.specs.Names.{IsName, is_reserved, reserved_words}
use Rattle.cc_base.specs.declared.code.Code.{Code}
use Rattle.cc_base.specs.declared.device.DeviceDecl.{DeviceDecl}
use Rattle.cc_base.specs.declared.device.Kind.TheVariants.{Console}
use Rattle.cc_entry_laws.specs.PresentEntries.{CheckedModule, CheckedEntry, definitions_of, present_module, started_in, IsEntryOf}
use Rattle.cc_entry_laws.specs.LinkOrders.{is_reached}
use Rattle.cc_entry_laws.proofs.MadeEntries.{made_entry}
use Rattle.cc_graph.specs.Graph.{ImportMap, IsOrder}
use Rattle.cc_hosting.specs.HostedRuns.{hosted, refused_course, refusal_text, IsHostedAs}
use Rattle.cc_item_reading.specs.Sayings.{size, item_limit}
use Rattle.cc_item_reading.specs.declared.asides.Aside.TheVariants.{Live}
use Rattle.cc_job.specs.Jobs.{Declares, Commands, item_lines, text}
use Rattle.cc_job.specs.declared.job.Command.TheVariants.{Put, Drop, Policy}
use Rattle.cc_job.specs.JobExamples.{rule}
use Rattle.cc_live.specs.LiveRuns.{Course, Over, Waits, Breaks}
use Rattle.std.specs.Option.{unwrap_or}
use Rattle.cc_mnf.specs.ElaboratedModules.{device_names}
use Rattle.cc_policy.specs.declared.policy.Rule.{Rule}
use Rattle.cc_replies.specs.ReplyTexts.{PutDone, DropDone, PolicySet}
use Rattle.cc_verdicts.specs.ModuleVerdicts.{CheckedDefinition, ModuleVerdict}
use Rattle.cc_verdicts.specs.PresentTexts.{Texts, text_of}
use Rattle.cc_words.specs.Lines.{Line}
use Rattle.cc_worked_replies.proofs.ComputedReplies.{AreJudged, are_judged, quick_imports, same_imports, entry_by, reply_computing}
use Rattle.cc_worked_replies.proofs.WorkedRuns.{verdicts_of}
use Rattle.cc_conversation.specs.Conversations.{beginning, behind, under_way, Moment, SaysAside, Rests, Asks, EndedAt, Says, IsSpoken}
use Rattle.cc_conversation.specs.Conversations.IsSpoken.{opened}
use Rattle.cc_conversation.specs.Conversations.Says.{rests, goes_on, runs, stops}
use Rattle.cc_conversation.specs.Conversations.StandsIn.{asks, breaks}
use Rattle.cc_worked_conversations.specs.LiveConversations as example

abbrev tools : List ℕ
tools = codes "tools"

abbrev main : List ℕ
main = codes "main"

abbrev out : DeviceDecl
out = record { name = codes "out"; kind = Console }

abbrev devices : List DeviceDecl
devices = out ∷ []

abbrev tools_text : List ℕ
tools_text =
    text
    (codes "def f: ((x: Int) -> Unit)^{out} = fun (x: Int) => out.print(x)" ∷ codes "def main = fun (u: Unit) => f(5)" ∷ [])

abbrev texts : Texts
texts = (tools, tools_text) ∷ []

abbrev verdicts : List ℕ → ModuleVerdict
verdicts = verdicts_of devices texts

abbrev graph : ImportMap
graph = (tools, []) ∷ []

abbrev names : List (List ℕ)
names = tools ∷ []

judged : AreJudged devices texts verdicts graph names
unfolding reply_computing
judged = are_judged devices 12 texts verdicts graph names (tt, tt) (tt, tt) refl (refl, tt) (record { steps = refl; whole = refl })

same_module : (name : List ℕ)
    → ◌≡◌ {A = CheckedModule} (record { name = name; imports = unwrap_or (quick_imports (unwrap_or (text_of texts name) [])) []; definitions = definitions_of (verdicts name) })
    (present_module texts verdicts name)
same_module name = λ i. record {
  name = name;
  imports = unwrap_or (sym (same_imports (unwrap_or (text_of texts name) [])) i) [];
  definitions = definitions_of (verdicts name);
}

abbrev its_entry : CheckedDefinition → CheckedEntry
its_entry started = entry_by devices texts verdicts graph names tools main started

entry_is : (started : CheckedDefinition) → started_in texts verdicts tools main ≡ Ok started
    → IsEntryOf devices texts verdicts tools main started (its_entry started)
entry_is started starts =
    let O : ImportMap → Type 0 = λ g. IsOrder g names in
    made_entry devices texts verdicts judged.differ judged.sorted judged.are tools main started starts names
    (subst O (sym judged.is_graph) judged.order) (its_entry started) refl
    (λ i. map (λ n. same_module n i) (filter (is_reached (sym judged.is_graph i) tools) names)) refl refl refl

-- what comes of the live run by these rules
abbrev course_by : List Rule → Result CheckedDefinition Code → Course
course_by rules (Ok started) = hosted (device_names devices) rules texts tools main 100 (its_entry started)
course_by rules (Err code) = refused_course (refusal_text tools main code)

hosted_by : (rules : List Rule) (found : Result CheckedDefinition Code) → started_in texts verdicts tools main ≡ found
    → IsHostedAs devices rules texts verdicts tools main 100 found (course_by rules found)
hosted_by rules (Ok started) is = (its_entry started, entry_is started is, refl)
hosted_by rules (Err code) is = refl

abbrev course : List Rule → Course
course rules = course_by rules (started_in texts verdicts tools main)

-- lines that are short, by their count
fits : (lines : List Line) → nat_le (size lines) item_limit ≡ true → size lines ≤ item_limit
fits lines h = grind (arith, nat_tests)

tools_is : IsName tools
unfolding encode unicode_ident is_reserved reserved_words
tools_is = refl

main_is : IsName main
unfolding encode unicode_ident is_reserved reserved_words
main_is = refl

out_is : IsName (codes "out")
unfolding encode unicode_ident is_reserved reserved_words
out_is = refl

abbrev one_rule : Bool → List Rule
one_rule allow = rule allow (Some tools) (Some (codes "out")) ∷ []

-- where the devices are declared, the module is put and the rules are set
abbrev ready : Bool → Moment
ready allow = behind (behind (behind beginning (Declares out)) (Commands (Put tools tools_text))) (Commands (Policy (one_rule allow)))

run_of : (allow : Bool) (lines : List Line) → SaysAside (ready allow) (codes "live tools.main 100" ∷ lines) lines (course (one_rule allow))
unfolding encode digits
run_of allow lines = record {
  it = Live tools main 100;
  may = ((tools_is, main_is), omega arith);
  short = fits (codes "live tools.main 100" ∷ []) refl;
  says = refl;
  comes = (verdicts, judged.are, hosted_by (one_rule allow) (started_in texts verdicts tools main) refl);
}

abbrev policy_line : Bool → Line
policy_line true = codes "allow tools out"
policy_line false = codes "deny tools out"

-- what is said up to the run, and then what comes of it
spoken : (allow : Bool) (said : List Line) (told : List ℕ) (refused : Bool) (standing : _)
    → Says (suc (length (codes "device out console" ∷ codes "put tools 2"
    ∷ codes "def f: ((x: Int) -> Unit)^{out} = fun (x: Int) => out.print(x)" ∷ codes "def main = fun (u: Unit) => f(5)"
    ∷ codes "policy 1" ∷ policy_line allow ∷ codes "live tools.main 100" ∷ said))) (ready allow) (codes "live tools.main 100" ∷ said) told refused standing
    → IsSpoken (example.opened_with (policy_line allow) said) (text (example.answered_with []) ++ told) refused standing
unfolding encode digits IsDistinct
spoken true said told refused standing then =
    opened
    (goes_on {moment = beginning} (Declares out) _ [] _ false refused
    ((out_is, tt), record { early = refl; few = omega arith; names = (tt, tt) }) refl (fits (item_lines (Declares out)) refl) (refl, refl)
    (goes_on (Commands (Put tools tools_text)) _ (text (codes "put tools" ∷ [] ∷ [])) _ false refused
    (tools_is, refl, omega arith) refl (fits (item_lines (Commands (Put tools tools_text))) refl) (PutDone tools, refl, refl, refl)
    (goes_on (Commands (Policy (one_rule true))) _ (text (codes "policy 1" ∷ [] ∷ [])) told false refused
    (((tools_is, out_is), tt), omega arith) refl (fits (item_lines (Commands (Policy (one_rule true)))) refl) (PolicySet 1, refl, refl, refl) then)))
spoken false said told refused standing then =
    opened
    (goes_on {moment = beginning} (Declares out) _ [] _ false refused
    ((out_is, tt), record { early = refl; few = omega arith; names = (tt, tt) }) refl (fits (item_lines (Declares out)) refl) (refl, refl)
    (goes_on (Commands (Put tools tools_text)) _ (text (codes "put tools" ∷ [] ∷ [])) _ false refused
    (tools_is, refl, omega arith) refl (fits (item_lines (Commands (Put tools tools_text))) refl) (PutDone tools, refl, refl, refl)
    (goes_on (Commands (Policy (one_rule false))) _ (text (codes "policy 1" ∷ [] ∷ [])) told false refused
    (((tools_is, out_is), tt), omega arith) refl (fits (item_lines (Commands (Policy (one_rule false)))) refl) (PolicySet 1, refl, refl, refl) then)))

-- the line of a drop, behind the run
dropped : (total : ℕ) (allow : Bool) → Says total (under_way (ready allow)) (codes "drop tools" ∷ []) (text (codes "drop tools" ∷ [] ∷ [])) false Rests
unfolding encode digits
dropped total allow =
    goes_on (Commands (Drop tools)) [] (text (codes "drop tools" ∷ [] ∷ [])) [] false false tools_is refl
    (fits (item_lines (Commands (Drop tools))) refl) (DropDone tools, refl, refl, refl) (rests refl)

abbrev up_to_print : List ℕ
up_to_print = text example.up_to_print

answered_is : course (one_rule true) (codes "ok" ∷ []) ≡ record { text = up_to_print ++ text (codes "  done unit after 4 steps" ∷ []); standing = Over false [] }
unfolding reply_computing
answered_is = refl

waiting_is : course (one_rule true) [] ≡ record { text = up_to_print; standing = Waits }
unfolding reply_computing
waiting_is = refl

stopped_is : course (one_rule true) (codes "stop" ∷ []) ≡ record { text = up_to_print ++ text (codes "  stopped after 3 steps" ∷ []); standing = Over true [] }
unfolding reply_computing
stopped_is = refl

broken_is : course (one_rule true) (codes "yes" ∷ []) ≡ record { text = up_to_print; standing = Breaks [] }
unfolding reply_computing
broken_is = refl

denied_is : course (one_rule false) [] ≡ record { text = text (codes "live tools.main refused E37" ∷ []); standing = Over true [] }
unfolding reply_computing
denied_is = refl

pub runs_are_spoken : example.RunsAreSpoken
runs_are_spoken = record {
  answered = spoken true (codes "ok" ∷ codes "drop tools" ∷ []) _ false Rests
      (runs (course (one_rule true)) (codes "ok" ∷ []) (codes "drop tools" ∷ []) _ _ false false (run_of true _) (fits (codes "ok" ∷ []) refl, tt) answered_is (dropped _ true));
  waiting = spoken true [] _ false Asks (stops (course (one_rule true)) [] [] _ (run_of true []) tt (asks waiting_is));
  stopped = spoken true (codes "stop" ∷ []) _ true Rests
      (runs (course (one_rule true)) (codes "stop" ∷ []) [] _ [] true false (run_of true _) (fits (codes "stop" ∷ []) refl, tt) stopped_is (rests refl));
  broken = spoken true (codes "yes" ∷ codes "ok" ∷ []) _ false (EndedAt 9)
      (stops (course (one_rule true)) (codes "yes" ∷ []) (codes "ok" ∷ []) _ (run_of true _) (fits (codes "yes" ∷ []) refl, tt) (breaks 9 broken_is refl));
}

pub denied_runs_are_spoken : example.DeniedRunsAreSpoken
denied_runs_are_spoken = record {
  denied = spoken false (codes "drop tools" ∷ []) _ true Rests
      (runs (course (one_rule false)) [] (codes "drop tools" ∷ []) _ _ true false (run_of false _) tt denied_is (dropped _ false));
}
