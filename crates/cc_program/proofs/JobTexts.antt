-- The text of a job is one of that job.
use Rattle.std.proofs.Common.{◌≡◌, ℕ, suc, ◌<◌, ◌≤◌, List, [], ◌∷◌, ◌++◌, map, length, codes, refl, sym, ap, ◌∙◌, subst, inl, arith}
use Rattle.std.specs.Prelude.{ℤ, pos, negsuc, IsTrue, encode_utf8_all}
use Rattle.std.specs.List.{AllByRecursion, flat_map}
use Rattle.std.specs.Fmt.{decimal, signed_decimal, digits}
use lib.Utf8.{encode}
use Rattle.std.proofs.lemmas.Bool.Decides.{nat_tests}
use Rattle.cc_base.specs.Names.{IsName}
use Rattle.cc_base.specs.declared.device.Kind.{Kind}
use Rattle.cc_base.specs.declared.device.Kind.TheVariants.{Console, File, Counter}
use Rattle.cc_job.specs.declared.job.Command.{Command}
use Rattle.cc_job.specs.declared.job.Command.TheVariants.{Put, Drop, Check, Sig, Derive, Run, Tasks, Verify, Policy, Audit, Guard, Explain, Replay}
use Rattle.cc_job.proofs.ItemLists.{rules_are}
use Rattle.cc_job.proofs.RuleLaws.{rules-lack}
use Rattle.cc_job.specs.Jobs.{Item, Declares, Commands, kind_words, command_words, item_words, item_lines, item_text, item_rules, rule_line, IsKind, IsCommand, IsItem, AreItems, skipped, items_of, first_line, text}
use Rattle.cc_words.proofs.LineLists.{terminated, whole-terminated, lines_of-whole, lines-lack, AllLack-append}
use Rattle.cc_words.proofs.NameBytes.{Lacks-name}
use Rattle.cc_words.proofs.Numbers.{Lacks-decimal}
use Rattle.cc_words.proofs.Splits.{AllLack, Lacks-test, Lacks-joined}
use Rattle.cc_words.proofs.Steps.{Lacks, Lacks-append}
use Rattle.cc_words.specs.Lines.{Line, lines_of, AreWholeLines}
use Rattle.cc_words.specs.Words.{has_64_bits, IsPair, pair_text}
use Rattle.cc_workload.specs.Workloads.{workload, DevicesDiffer, WorkloadItems}
use Rattle.cc_program.proofs.SoundJobs.{every_job_is_sound}
use Rattle.cc_program.specs.JobTexts.{job_text, JobsHaveTexts, WorkloadsAreJobs, TextOfOneModule}

-- NO LINE FEED

-- no word that writes one of a list has a line feed, where none of these words has one
all_lack : {A : Type 0} (P : A → Type 0) (write : A → List ℕ) → ((x : A) → P x → Lacks 10 (write x)) → (xs : List A) → AllByRecursion P xs
    → AllLack 10 (map write xs)
all_lack P write lacks [] all = tt
all_lack P write lacks (x ∷ xs) all = (lacks x all.0, all_lack P write lacks xs all.1)

name_lacks : (name : List ℕ) → IsName name → Lacks 10 (encode_utf8_all name)
name_lacks name named = Lacks-name 10 name refl named

number_lacks : (n : ℕ) → n ≤ 4194304 → Lacks 10 (decimal n)
number_lacks n low = Lacks-decimal 10 n (omega arith) (omega arith)

signed_lacks : (z : ℤ) → IsTrue (has_64_bits z) → Lacks 10 (signed_decimal z)
signed_lacks (pos n) fits = Lacks-decimal 10 n (omega arith) (grind (arith, nat_tests))
signed_lacks (negsuc n) fits = (refl, Lacks-decimal 10 (suc n) (omega arith) (grind (arith, nat_tests)))

pair_lacks : (pair : List ℕ × List ℕ) → IsPair pair → Lacks 10 (pair_text pair)
pair_lacks pair is =
    Lacks-append 10 (encode_utf8_all pair.0 ++ codes ".") (encode_utf8_all pair.1)
    (Lacks-append 10 (encode_utf8_all pair.0) (codes ".") (name_lacks pair.0 is.0) (refl, tt))
    (name_lacks pair.1 is.1)

kind_lacks : (kind : Kind) → IsKind kind → AllLack 10 (kind_words kind)
kind_lacks Console is = (Lacks-test 10 (codes "console") refl, tt)
kind_lacks (File numbers) is =
    (Lacks-test 10 (codes "file") refl, all_lack (λ number. IsTrue (has_64_bits number)) signed_decimal signed_lacks numbers is)
kind_lacks Counter is = (Lacks-test 10 (codes "counter") refl, tt)

turns_lack : (tasks : ℕ) (schedule : List ℕ) → tasks ≤ 8 → AllByRecursion (λ number. number < tasks) schedule → AllLack 10 (map decimal schedule)
turns_lack tasks schedule few all = all_lack (λ number. number < tasks) decimal (λ n low. number_lacks n (omega arith)) schedule all

command_lacks : (command : Command) → IsCommand command → AllLack 10 (command_words command)
command_lacks (Put name text) is =
    (Lacks-test 10 (codes "put") refl, (name_lacks name is.0, (number_lacks (length (lines_of text)) is.2, tt)))
command_lacks (Drop name) is = (Lacks-test 10 (codes "drop") refl, (name_lacks name is, tt))
command_lacks Check is = (Lacks-test 10 (codes "check") refl, tt)
command_lacks (Sig name) is = (Lacks-test 10 (codes "sig") refl, (name_lacks name is, tt))
command_lacks (Derive owner definition) is = (Lacks-test 10 (codes "derive") refl, (pair_lacks (owner, definition) is, tt))
command_lacks (Run owner definition fuel) is =
    (Lacks-test 10 (codes "run") refl, (pair_lacks (owner, definition) is.0, (number_lacks fuel (omega (arith, is.1)), tt)))
command_lacks (Tasks fuel schedule entries) is =
    let turns = is.1 in (
      Lacks-test 10 (codes "tasks") refl,
      (
        number_lacks fuel (omega (arith, is.0)),
        (
          Lacks-joined 44 10 (map decimal schedule) refl (turns_lack (length entries) schedule is.4 turns.2),
          all_lack IsPair pair_text pair_lacks entries is.2,
        ),
      ),
    )
command_lacks (Verify text) is = (Lacks-test 10 (codes "verify") refl, (number_lacks (length (lines_of text)) is.1, tt))
command_lacks (Policy rules) is = (Lacks-test 10 (codes "policy") refl, (number_lacks (length rules) (omega (arith, is.1)), tt))
command_lacks (Audit owner definition) is = (Lacks-test 10 (codes "audit") refl, (pair_lacks (owner, definition) is, tt))
command_lacks (Guard owner definition fuel) is =
    (Lacks-test 10 (codes "guard") refl, (pair_lacks (owner, definition) is.0, (number_lacks fuel (omega (arith, is.1)), tt)))
command_lacks (Explain owner definition) is = (Lacks-test 10 (codes "explain") refl, (pair_lacks (owner, definition) is, tt))
command_lacks (Replay owner definition fuel text) is = (
  Lacks-test 10 (codes "replay") refl,
  (
    pair_lacks (owner, definition) is.0,
    (number_lacks fuel (omega (arith, is.1)), (number_lacks (length (lines_of text)) is.3, tt)),
  ),
)

words_lack : (item : Item) → IsItem item → AllLack 10 (item_words item)
words_lack (Declares device) is = (Lacks-test 10 (codes "device") refl, (name_lacks device.name is.0, kind_lacks device.kind is.1))
words_lack (Commands command) is = command_lacks command is

-- no line of an item has one
item_lacks : (item : Item) → IsItem item → AllLack 10 (item_lines item)
item_lacks item is = (
  Lacks-joined 32 10 (item_words item) refl (words_lack item is),
  AllLack-append 10 (lines_of (item_text item)) (map rule_line (item_rules item)) (lines-lack (item_text item))
      (rules-lack (item_rules item) (rules_are item is)),
)

items_lack : (items : List Item) → AllByRecursion IsItem items → AllLack 10 (flat_map item_lines items)
items_lack [] all = tt
items_lack (item ∷ items) all =
    AllLack-append 10 (item_lines item) (flat_map item_lines items) (item_lacks item all.0) (items_lack items all.1)

-- THE LINES OF ITEMS

-- the line of an item is not empty, so none is skipped
command_stays : (command : Command) (rest : List Line)
    → skipped (item_lines (Commands command) ++ rest) ≡ item_lines (Commands command) ++ rest
command_stays (Put name text) rest = refl
command_stays (Drop name) rest = refl
command_stays Check rest = refl
command_stays (Sig name) rest = refl
command_stays (Derive owner definition) rest = refl
command_stays (Run owner definition fuel) rest = refl
command_stays (Tasks fuel schedule entries) rest = refl
command_stays (Verify text) rest = refl
command_stays (Policy rules) rest = refl
command_stays (Audit owner definition) rest = refl
command_stays (Guard owner definition fuel) rest = refl
command_stays (Explain owner definition) rest = refl
command_stays (Replay owner definition fuel text) rest = refl

item_stays : (item : Item) (rest : List Line) → skipped (item_lines item ++ rest) ≡ item_lines item ++ rest
item_stays (Declares device) rest = refl
item_stays (Commands command) rest = command_stays command rest

are_items : (items : List Item) → AllByRecursion IsItem items → AreItems (flat_map item_lines items) items
are_items [] all = refl
are_items (item ∷ items) all =
    (flat_map item_lines items, all.0, item_stays item (flat_map item_lines items), are_items items all.1)

-- a text of lines is these, each with its line feed
text_terminated : (lines : List Line) → text lines ≡ terminated lines
text_terminated [] = refl
text_terminated (line ∷ lines) = ap (λ rest. line ++ 10 ∷ rest) (text_terminated lines)

text_lines : (lines : List Line) → AllLack 10 lines → lines_of (text lines) ≡ lines
text_lines lines lack = ap lines_of (text_terminated lines) ∙ lines_of-whole lines lack

text_whole : (lines : List Line) → AreWholeLines (text lines)
text_whole lines = subst (λ bytes. AreWholeLines bytes) (sym (text_terminated lines)) (whole-terminated lines)

pub jobs_have_texts : JobsHaveTexts
jobs_have_texts job all few differ =
    let lines = flat_map item_lines (items_of job) in
    record {
      behind = lines;
      begins = text_lines (first_line ∷ lines) (Lacks-test 10 first_line refl, items_lack (items_of job) all);
      items = are_items (items_of job) all;
      few = few;
      names = differ;
      ended = inl (text_whole (first_line ∷ lines));
    }

pub workloads_are_jobs : WorkloadItems → DevicesDiffer → WorkloadsAreJobs
workloads_are_jobs items differ number some few =
    let is = jobs_have_texts (workload number) (items number some few) (omega arith) differ in
    (is, every_job_is_sound (job_text (workload number)) (workload number) is)

pub text_of_one_module : TextOfOneModule
unfolding digits encode
text_of_one_module = refl
