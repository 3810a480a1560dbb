-- What was read of a job so far, and what stands behind it.
use Rattle.std.proofs.Common.{◌≡◌, ℕ, zero, suc, ◌+◌, ◌<◌, ◌≤◌, Bool, true, false, not, ◌&&◌, ◌==◌, List, [], ◌∷◌, ◌++◌, length, map, take, drop, Some, refl, sym, ap, ◌∙◌, subst, inl, ◌⊎◌, arith}
use Rattle.std.specs.Prelude.{nat_lt}
use Rattle.std.specs.List.{list_any, AllByRecursion, IsDistinct}
use Rattle.std.specs.Str.{bytes_eq}
use Rattle.std.specs.Cmp.Lexicographic.{nat_list_eq_equiv}
use Rattle.std.proofs.lemmas.List.{append-nil, append_assoc, length-append, take-append-drop}
use Rattle.std.proofs.lemmas.Map.Keys.{IsDistinct-push}
use Rattle.std.proofs.lemmas.Bool.Decides.{nat_tests, Decides-eqb}
use Rattle.cc_base.specs.declared.device.DeviceDecl.{DeviceDecl}
use Rattle.cc_policy.specs.declared.policy.Rule.{Rule}
use Rattle.cc_job.specs.declared.job.Job.{Job}
use Rattle.cc_job.specs.declared.job.Command.{Command}
use Rattle.cc_job.specs.declared.job.Command.TheVariants.{Put, Verify, Policy, Replay}
use Rattle.cc_job.specs.declared.head.Head.{Head}
use Rattle.cc_job.specs.declared.head.Head.TheVariants.{Device, Put as PutHead, Verify as VerifyHead, Policy as PolicyHead, Replay as ReplayHead, Command as CommandHead}
use Rattle.cc_words.specs.Lines.{Line, lines_of, is_whole_behind}
use Rattle.cc_job.specs.Jobs.{Item, Declares, Commands, item_text, item_rules, item_lines, rule_line, IsRule, AreItems, last_text, first_line, IsJob, BeginsJob}
use Rattle.cc_job.specs.Reading.{head_of, text_size, rule_count, lines_behind, has_device, admits, is_admitted, devices_with, commands_with}
use Rattle.cc_words.proofs.Steps.{both}
use Rattle.cc_words.proofs.Splits.{AllLack, Lacks-test}
use Rattle.cc_words.proofs.LineLists.{terminated, lines_of-whole, whole-terminated, lines-lack, AllLack-front}
use Rattle.cc_job.proofs.HeadLaws.{item_from, IsLineOf, head_of_gives}
use Rattle.cc_job.proofs.ItemLists.{Leads}

abbrev pub names_of : List DeviceDecl → List (List ℕ)
names_of devices = map (λ device. device.name) devices

abbrev pub items_in : List DeviceDecl → List Command → List Item
items_in devices commands = map Declares devices ++ map Commands commands

pub map-append : {A B : Type 0} (f : A → B) (xs ys : List A) → map f (xs ++ ys) ≡ map f xs ++ map f ys
map-append f [] ys = refl
map-append f (x ∷ xs) ys = ap (λ it. f x ∷ it) (map-append f xs ys)

-- what was read so far
pub record Stands (bytes rest : List ℕ) (devices : List DeviceDecl) (commands : List Command) (number : ℕ) : Type 0 where
  pub front : List Line
  pub lines : lines_of bytes ≡ (first_line ∷ front) ++ lines_of rest
  pub count : number ≡ suc (length front)
  pub leads : Leads front (items_in devices commands)
  pub few : length devices ≤ 16
  pub names : IsDistinct bytes_eq (names_of devices)
  pub ended : (is_whole_behind true bytes ≡ is_whole_behind true rest) ⊎ ((rest ≡ []) × (last_text [] (items_in devices commands) ≡ []))

-- the job of these lines
abbrev pub job_with : List DeviceDecl → List Command → Job
job_with devices commands = record { devices = devices; commands = commands }

pub whole_job : (front : List Line) (devices : List DeviceDecl) (commands : List Command) → AllLack 10 front → Leads front (items_in devices commands)
    → length devices ≤ 16 → IsDistinct bytes_eq (names_of devices) → IsJob (terminated (first_line ∷ front)) (job_with devices commands)
whole_job front devices commands lack leads few names = record {
  behind = front;
  begins = lines_of-whole (first_line ∷ front) (Lacks-test 10 first_line refl, lack);
  items = subst (AreItems front) (append-nil (items_in devices commands)) (subst (λ it. AreItems it (items_in devices commands ++ [])) (append-nil front) (leads.join [] [] refl));
  few = few;
  names = names;
  ended = inl (whole-terminated (first_line ∷ front));
}

-- lines begin a job where they are the first of lines that do
pub begins_front : (front more : List Line) → BeginsJob (front ++ more) → BeginsJob front
begins_front front more begins = record {
  bytes = begins.bytes;
  job = begins.job;
  is = begins.is;
  behind = more ++ begins.behind;
  begins = begins.begins ∙ append_assoc front more begins.behind;
}

pub begins_take : (n : ℕ) (lines : List Line) → BeginsJob lines → BeginsJob (take n lines)
begins_take n lines begins = begins_front (take n lines) (drop n lines) (subst BeginsJob (sym (take-append-drop n lines)) begins)

pub take_front : (n : ℕ) (front more : List Line) → n ≤ length front → take n (front ++ more) ≡ take n front
take_front zero front more low = refl
take_front (suc n) [] more low = absurd (omega arith)
take_front (suc n) (line ∷ front) more low = ap (λ it. line ∷ it) (take_front n front more (omega arith))

pub begins_here : (bytes rest : List ℕ) (devices : List DeviceDecl) (commands : List Command) (number : ℕ) (stands : Stands bytes rest devices commands number) → BeginsJob (first_line ∷ stands.front)
begins_here bytes rest devices commands number stands =
    let lack = subst (AllLack 10) stands.lines (lines-lack bytes) in
    let front_lacks = (AllLack-front 10 (first_line ∷ stands.front) (lines_of rest) lack).1 in
    record {
      bytes = terminated (first_line ∷ stands.front);
      job = job_with devices commands;
      is = whole_job stands.front devices commands front_lacks stands.leads stands.few stands.names;
      behind = [];
      begins = lines_of-whole (first_line ∷ stands.front) (Lacks-test 10 first_line refl, front_lacks) ∙ sym (append-nil (first_line ∷ stands.front));
    }

-- the fronts of what was read begin jobs
pub begins_earlier : (bytes rest : List ℕ) (devices : List DeviceDecl) (commands : List Command) (number : ℕ) → Stands bytes rest devices commands number → (earlier : ℕ) → earlier ≤ number → BeginsJob (take earlier (lines_of bytes))
begins_earlier bytes rest devices commands number stands earlier low =
    let same = ap (take earlier) stands.lines ∙ take_front earlier (first_line ∷ stands.front) (lines_of rest) (omega (arith, stands.count)) in
    subst BeginsJob (sym same) (begins_take earlier (first_line ∷ stands.front) (begins_here bytes rest devices commands number stands))

-- items
pub last_text-push : (text : List ℕ) (items : List Item) (item : Item) → last_text text (items ++ item ∷ []) ≡ item_text item
last_text-push text [] item = refl
last_text-push text (x ∷ items) item = last_text-push (item_text x) items item

pub record Added (devices : List DeviceDecl) (commands : List Command) (head : Head) (text : List ℕ) (rules : List Rule) : Type 0 where
  pub few : length (devices_with devices head) ≤ 16
  pub names : IsDistinct bytes_eq (names_of (devices_with devices head))
  pub items : items_in (devices_with devices head) (commands_with commands head text rules) ≡ items_in devices commands ++ item_from head text rules ∷ []

command_added : (devices : List DeviceDecl) (commands : List Command) (command : Command) → map Declares devices ++ map Commands (commands ++ command ∷ []) ≡ items_in devices commands ++ Commands command ∷ []
command_added devices commands command =
    ap (λ it. map Declares devices ++ it) (map-append Commands commands (command ∷ [])) ∙ sym (append_assoc (map Declares devices) (map Commands commands) (Commands command ∷ []))

pub names_any : (device : DeviceDecl) (devices : List DeviceDecl) → list_any (bytes_eq device.name) (names_of devices) ≡ has_device devices device
names_any device [] = refl
names_any device (other ∷ devices) = rw (names_any device devices) refl

pub not_false : (t : Bool) → not t ≡ true → t ≡ false
not_false true h = cc
not_false false h = refl

pub not_true : (t : Bool) → not t ≡ false → t ≡ true
not_true true h = refl
not_true false h = cc

pub added : (devices : List DeviceDecl) (commands : List Command) (head : Head) (text : List ℕ) (rules : List Rule) → is_admitted devices commands head ≡ true → length devices ≤ 16 → IsDistinct bytes_eq (names_of devices)
    → Added devices commands head text rules
unfolding admits
added devices [] (Device device) text rules admitted few names =
    let tests = both ((length {A = Command} [] == 0) && nat_lt (length devices) 16) (not (has_device devices device)) admitted in
    let below : nat_lt (length devices) 16 ≡ true = (both (length {A = Command} [] == 0) (nat_lt (length devices) 16) tests.0).1 in
    let less : length devices < 16 = grind (arith, nat_tests) in
    let fresh = names_any device devices ∙ not_false (has_device devices device) tests.1 in
    record {
      few = omega (arith, length-append devices (device ∷ []));
      names = subst (IsDistinct bytes_eq) (sym (map-append (λ it. it.name) devices (device ∷ []))) (IsDistinct-push nat_list_eq_equiv (names_of devices) device.name names fresh);
      items = append-nil (map Declares (devices ++ device ∷ [])) ∙ (map-append Declares devices (device ∷ []) ∙ ap (λ it. it ++ Declares device ∷ []) (sym (append-nil (map Declares devices))));
    }
added devices (command ∷ commands) (Device device) text rules admitted few names = absurd (clash admitted)
  where
    clash : ((length (command ∷ commands) == 0) && nat_lt (length devices) 16 && not (has_device devices device)) ≡ true → ⊥
    clash h = let first = (both (length (command ∷ commands) == 0) (nat_lt (length devices) 16) (both ((length (command ∷ commands) == 0) && nat_lt (length devices) 16) (not (has_device devices device)) h).0).0 in let none = (Decides-eqb (length (command ∷ commands)) 0).0 first in omega arith
added devices commands (PutHead name count) text rules admitted few names =
    record { few = few; names = names; items = command_added devices commands (Put name text) }
added devices commands (VerifyHead count) text rules admitted few names =
    record { few = few; names = names; items = command_added devices commands (Verify text) }
added devices commands (PolicyHead count) text rules admitted few names =
    record { few = few; names = names; items = command_added devices commands (Policy rules) }
added devices commands (ReplayHead owner definition fuel count) text rules admitted few names =
    record { few = few; names = names; items = command_added devices commands (Replay owner definition fuel text) }
added devices commands (CommandHead command) text rules admitted few names =
    record { few = few; names = names; items = command_added devices commands command }

-- the lines of what a line says with whole lines and rules behind it
pub item_lines_are : (line : Line) (head : Head) (text : List ℕ) (rules : List Rule) (lines : List Line) → AllLack 10 lines → text ≡ terminated lines → IsLineOf line head text rules
    → item_lines (item_from head text rules) ≡ line ∷ (lines ++ map rule_line rules)
item_lines_are line head text rules lines lack is of =
    ap (λ it. it ∷ (lines_of (item_text (item_from head text rules)) ++ map rule_line (item_rules (item_from head text rules)))) (sym of.spelled)
    ∙ (ap (λ it. line ∷ (it ++ map rule_line (item_rules (item_from head text rules)))) (ap lines_of (of.texts ∙ is) ∙ lines_of-whole lines lack)
    ∙ ap (λ it. line ∷ (lines ++ map rule_line it)) of.ruled)

pub line_of_text : (line : Line) (head : Head) (lines : List Line) (rules : List Rule) → head_of line ≡ Some head → AllLack 10 lines → length lines ≡ text_size head
    → AllByRecursion IsRule rules → length rules ≡ rule_count head → IsLineOf line head (terminated lines) rules
line_of_text line head lines rules says lack size are many =
    head_of_gives (terminated lines) (whole-terminated lines) rules are line head says (ap length (lines_of-whole lines lack) ∙ size) many

-- whole lines of a text or rules stand behind a line, not both
pub one_kind : (head : Head) → 1 ≤ rule_count head → text_size head ≡ 0
one_kind (Device device) some = absurd (omega arith)
one_kind (PutHead name count) some = absurd (omega arith)
one_kind (VerifyHead count) some = absurd (omega arith)
one_kind (PolicyHead count) some = refl
one_kind (ReplayHead owner definition fuel count) some = absurd (omega arith)
one_kind (CommandHead command) some = absurd (omega arith)

pub lines_behind-sum : (head : Head) → lines_behind head ≡ text_size head + rule_count head
lines_behind-sum (Device device) = refl
lines_behind-sum (PutHead name count) = omega arith
lines_behind-sum (VerifyHead count) = omega arith
lines_behind-sum (PolicyHead count) = omega arith
lines_behind-sum (ReplayHead owner definition fuel count) = omega arith
lines_behind-sum (CommandHead command) = refl

pub append_empty : {A : Type 0} (xs ys : List A) → xs ++ ys ≡ [] → (xs ≡ []) × (ys ≡ [])
append_empty [] ys e = (refl, e)
append_empty (x ∷ xs) ys e = cc
