-- What a line says is the item of which it is the line.
use Rattle.std.proofs.Common.{◌≡◌, ℕ, ◌-◌, ◌<◌, ◌≤◌, Bool, true, false, not, ◌&&◌, ◌||◌, cond, List, [], ◌∷◌, length, map, Option, Some, None, refl, sym, ap, ◌∙◌, subst, inl, inr, ◌⊎◌, ⊎_elim, arith}
use Rattle.std.specs.Prelude.{codes, encode_utf8_all, ℤ, nat_le, nat_lt, IsTrue, unwrap_or}
use Rattle.std.specs.Option.{option_map}
use Rattle.std.specs.List.{AllByRecursion}
use Rattle.std.specs.Fmt.{decimal, signed_decimal}
use Rattle.std.specs.Str.{bytes_eq}
use Rattle.std.proofs.lemmas.Slice.Eq.{bytes_eq-Decides}
use Rattle.std.proofs.lemmas.Bool.Decides.{nat_tests}
use Rattle.std.proofs.lemmas.List.{length-map}
use Rattle.cc_base.specs.Names.{IsName}
use Rattle.cc_base.specs.declared.device.DeviceDecl.{DeviceDecl}
use Rattle.cc_base.specs.declared.device.Kind.{Kind}
use Rattle.cc_base.specs.declared.device.Kind.TheVariants.{Console, File, Counter}
use Rattle.cc_job.specs.declared.job.Command.{Command}
use Rattle.cc_policy.specs.declared.policy.Rule.{Rule}
use Rattle.cc_job.specs.declared.job.Command.TheVariants.{Put, Drop, Check, Sig, Derive, Run, Tasks, Verify, Policy, Audit, Guard, Explain, Replay}
use Rattle.cc_job.specs.declared.head.Head.{Head}
use Rattle.cc_job.specs.declared.head.Head.TheVariants.{Device, Put as PutHead, Verify as VerifyHead, Policy as PolicyHead, Replay as ReplayHead, Command as CommandHead}
use Rattle.cc_words.specs.Words.{joined, pair_text, has_64_bits, IsPair, ◌>>=◌, split_at, first_and_rest, one_of, two_of, name_of, number_of, signed_of, all_of, pair_of}
use Rattle.cc_words.specs.Lines.{Line, lines_of, AreWholeLines}
use Rattle.cc_job.specs.Jobs.{Item, Declares, Commands, kind_words, command_words, item_words, command_text, item_text, command_rules, item_rules, IsKind, covers, IsSchedule, IsRule, IsCommand, IsItem}
use Rattle.cc_job.specs.Reading.{is_schedule, schedule_of, turns_of, file_of, kind_with, kind_of, device_of, put_of, verify_of, policy_of, drop_of, check_of, sig_of, derive_of, run_of, tasks_of, audit_of, guard_of, replay_of, explain_of, command_with, head_with, head_of, text_size, rule_count}
use Rattle.cc_words.proofs.Steps.{some_from_bind, passed, both, name_of_gives}
use Rattle.cc_words.proofs.NameBytes.{name_of-encoded, Lacks-name}
use Rattle.cc_words.proofs.Splits.{AllLack, Lacks-test, Lacks-joined, split_at-joined, joined-split_at}
use Rattle.cc_words.proofs.LineLists.{terminated, terminated-lines_of}
use Rattle.cc_words.proofs.Numbers.{Lacks-decimal, Lacks-signed, number_of_gives, number_of-decimal, signed_of_gives, signed_of-decimal, all_of_gives, all_of-map, AllLack-map, Lacks-pair, two_of_gives, pair_of_gives, pair_of-text}

leb_holds : (m n : ℕ) → m ≤ n → nat_le m n ≡ true
leb_holds m n h = grind (arith, nat_tests)

pub some_same : {A : Type 0} (x y : A) → Some x ≡ Some y → x ≡ y
some_same x y e = ap (λ o. unwrap_or o x) e

-- a choice that gave something
pub choice : {A : Type 0} (b : Bool) (o p : Option A) (x : A) → cond b o p ≡ Some x → ((b ≡ true) × (o ≡ Some x)) ⊎ ((b ≡ false) × (p ≡ Some x))
choice true o p x h = inl (refl, h)
choice false o p x h = inr (refl, h)

-- a word that is the one that is asked for
pub is_word : (word asked : List ℕ) → bytes_eq word asked ≡ true → word ≡ asked
is_word word asked h = (bytes_eq-Decides word asked).0 h

one_of_gives : (words : List (List ℕ)) (word : List ℕ) → one_of words ≡ Some word → words ≡ word ∷ []
one_of_gives [] word h = cc
one_of_gives (x ∷ []) word h = ap (λ w. w ∷ []) (some_same x word h)
one_of_gives (x ∷ y ∷ words) word h = cc

pub first_gives : (words : List (List ℕ)) (split : List ℕ × List (List ℕ)) → first_and_rest words ≡ Some split → words ≡ split.0 ∷ split.1
first_gives [] split h = cc
first_gives (x ∷ words) split h = ap (λ it. it.0 ∷ it.1) (some_same (x, words) split h)

-- the words say the command
record Says (words : List (List ℕ)) (command : Command) : Type 0 where
  is : IsCommand command
  spelled : words ≡ command_words command
  bare : command_text command ≡ []
  unruled : command_rules command ≡ []

drop_gives : (words : List (List ℕ)) (command : Command) → drop_of words ≡ Some command → Says (codes "drop" ∷ words) command
unfolding drop_of
drop_gives words command h =
    let one = some_from_bind (one_of words) (λ word. name_of word >>= λ name. Some (Drop name)) command h in
    let named = some_from_bind (name_of one.0) (λ name. Some (Drop name)) command one.2 in
    let name = name_of_gives one.0 named.0 named.1 in
    subst (Says (codes "drop" ∷ words)) (some_same (Drop named.0) command named.2)
    (record { is = name.0; spelled = ap (λ ws. codes "drop" ∷ ws) (one_of_gives words one.0 one.1 ∙ ap (λ w. w ∷ []) name.1); bare = refl; unruled = refl })

sig_gives : (words : List (List ℕ)) (command : Command) → sig_of words ≡ Some command → Says (codes "sig" ∷ words) command
unfolding sig_of
sig_gives words command h =
    let one = some_from_bind (one_of words) (λ word. name_of word >>= λ name. Some (Sig name)) command h in
    let named = some_from_bind (name_of one.0) (λ name. Some (Sig name)) command one.2 in
    let name = name_of_gives one.0 named.0 named.1 in
    subst (Says (codes "sig" ∷ words)) (some_same (Sig named.0) command named.2)
    (record { is = name.0; spelled = ap (λ ws. codes "sig" ∷ ws) (one_of_gives words one.0 one.1 ∙ ap (λ w. w ∷ []) name.1); bare = refl; unruled = refl })

check_gives : (words : List (List ℕ)) (command : Command) → check_of words ≡ Some command → Says (codes "check" ∷ words) command
unfolding check_of
check_gives [] command h =
    subst (Says (codes "check" ∷ [])) (some_same Check command h) (record { is = tt; spelled = refl; bare = refl; unruled = refl })
check_gives (word ∷ words) command h = cc

derive_gives : (words : List (List ℕ)) (command : Command) → derive_of words ≡ Some command → Says (codes "derive" ∷ words) command
unfolding derive_of
derive_gives words command h =
    let one = some_from_bind (one_of words) (λ word. pair_of word >>= λ pair. Some (Derive pair.0 pair.1)) command h in
    let found = some_from_bind (pair_of one.0) (λ pair. Some (Derive pair.0 pair.1)) command one.2 in
    let pair = pair_of_gives one.0 found.0 found.1 in
    subst (Says (codes "derive" ∷ words)) (some_same (Derive found.0.0 found.0.1) command found.2)
    (record { is = pair.0; spelled = ap (λ ws. codes "derive" ∷ ws) (one_of_gives words one.0 one.1 ∙ ap (λ w. w ∷ []) pair.1); bare = refl; unruled = refl })

run_gives : (words : List (List ℕ)) (command : Command) → run_of words ≡ Some command → Says (codes "run" ∷ words) command
unfolding run_of
run_gives words command h =
    let two = some_from_bind (two_of words) (λ two. pair_of two.0 >>= λ pair. number_of 1000000 two.1 >>= λ fuel. Some (Run pair.0 pair.1 fuel)) command h in
    let found = some_from_bind (pair_of two.0.0) (λ pair. number_of 1000000 two.0.1 >>= λ fuel. Some (Run pair.0 pair.1 fuel)) command two.2 in
    let fuel = some_from_bind (number_of 1000000 two.0.1) (λ fuel. Some (Run found.0.0 found.0.1 fuel)) command found.2 in
    let pair = pair_of_gives two.0.0 found.0 found.1 in
    let number = number_of_gives 1000000 two.0.1 fuel.0 (omega arith) fuel.1 in
    let words_are = two_of_gives words two.0.0 two.0.1 two.1 in
    subst (Says (codes "run" ∷ words)) (some_same (Run found.0.0 found.0.1 fuel.0) command fuel.2)
    (record {
      is = (pair.0, number.0);
      spelled = ap (λ ws. codes "run" ∷ ws) (words_are ∙ (ap (λ w. w ∷ two.0.1 ∷ []) pair.1 ∙ ap (λ w. pair_text found.0 ∷ w ∷ []) number.1));
      bare = refl;
      unruled = refl;
    })

schedule_gives : (tasks : ℕ) (word : List ℕ) (schedule : List ℕ) → 0 < tasks → tasks ≤ 8 → schedule_of tasks word ≡ Some schedule → IsSchedule tasks schedule × (word ≡ joined 44 (map decimal schedule))
unfolding schedule_of is_schedule
schedule_gives tasks word schedule some few h =
    let numbers = some_from_bind (all_of (number_of (tasks - 1)) (split_at 44 word)) (λ numbers. cond (is_schedule tasks numbers) (Some numbers) None) schedule h in
    let tested = passed (is_schedule tasks numbers.0) numbers.0 schedule numbers.2 in
    let each = all_of_gives (number_of (tasks - 1)) (λ number. number < tasks) decimal sound (split_at 44 word) numbers.0 numbers.1 in
    let one = both (nat_le 1 (length numbers.0) && nat_le (length numbers.0) 64) (covers tasks numbers.0) tested.0 in
    let two = both (nat_le 1 (length numbers.0)) (nat_le (length numbers.0) 64) one.0 in
    subst (λ it. IsSchedule tasks it × (word ≡ joined 44 (map decimal it))) tested.1
    ((grind (arith, nat_tests), grind (arith, nat_tests), each.0, one.1), sym (joined-split_at 44 word) ∙ ap (joined 44) each.1)
  where
    sound : (word : List ℕ) (number : ℕ) → number_of (tasks - 1) word ≡ Some number → (number < tasks) × (word ≡ decimal number)
    sound word number e =
        let is = number_of_gives (tasks - 1) word number (omega arith) e in
        (omega (arith, is.0), is.1)

turns_give : (fuel : ℕ) (numbers : List ℕ) (words : List (List ℕ)) (command : Command) → fuel ≤ 1000000 → turns_of fuel numbers words ≡ Some command → Says (codes "tasks" ∷ decimal fuel ∷ numbers ∷ words) command
unfolding turns_of
turns_give fuel numbers words command low h =
    ⊎_elim (λ bad. clash bad.1) (λ found. finish found.0 found.1)
    (choice (nat_lt (length words) 1 || nat_lt 8 (length words)) None (all_of pair_of words >>= λ entries. schedule_of (length words) numbers >>= λ schedule. Some (Tasks fuel schedule entries)) command h)
  where
    clash : {B : Type 0} → ◌≡◌ {A = Option Command} None (Some command) → B
    clash e = cc

    finish : (nat_lt (length words) 1 || nat_lt 8 (length words)) ≡ false → (all_of pair_of words >>= λ entries. schedule_of (length words) numbers >>= λ schedule. Some (Tasks fuel schedule entries)) ≡ Some command → Says (codes "tasks" ∷ decimal fuel ∷ numbers ∷ words) command
    finish t e =
        let entries = some_from_bind (all_of pair_of words) (λ entries. schedule_of (length words) numbers >>= λ schedule. Some (Tasks fuel schedule entries)) command e in
        let schedule = some_from_bind (schedule_of (length words) numbers) (λ schedule. Some (Tasks fuel schedule entries.0)) command entries.2 in
        let each = all_of_gives pair_of IsPair pair_text pair_of_gives words entries.0 entries.1 in
        let same : length words ≡ length entries.0 = ap length each.1 ∙ length-map entries.0 pair_text in
        let some : 1 ≤ length words = grind (arith, nat_tests) in
        let few : length words ≤ 8 = grind (arith, nat_tests) in
        let turns = schedule_gives (length words) numbers schedule.0 some few schedule.1 in
        subst (Says (codes "tasks" ∷ decimal fuel ∷ numbers ∷ words)) (some_same (Tasks fuel schedule.0 entries.0) command schedule.2)
        (record {
          is = (low, subst (λ n. IsSchedule n schedule.0) same turns.0, each.0, subst (λ n. 1 ≤ n) same some, subst (λ n. n ≤ 8) same few);
          spelled = ap (λ it. codes "tasks" ∷ decimal fuel ∷ it ∷ words) turns.1 ∙ ap (λ it. codes "tasks" ∷ decimal fuel ∷ joined 44 (map decimal schedule.0) ∷ it) each.1;
          bare = refl;
          unruled = refl;
        })

tasks_gives : (words : List (List ℕ)) (command : Command) → tasks_of words ≡ Some command → Says (codes "tasks" ∷ words) command
unfolding tasks_of
tasks_gives words command h =
    let split = some_from_bind (first_and_rest words) (λ split. number_of 1000000 split.0 >>= λ fuel. first_and_rest split.1 >>= λ behind. turns_of fuel behind.0 behind.1) command h in
    let fuel = some_from_bind (number_of 1000000 split.0.0) (λ fuel. first_and_rest split.0.1 >>= λ behind. turns_of fuel behind.0 behind.1) command split.2 in
    let behind = some_from_bind (first_and_rest split.0.1) (λ behind. turns_of fuel.0 behind.0 behind.1) command fuel.2 in
    let number = number_of_gives 1000000 split.0.0 fuel.0 (omega arith) fuel.1 in
    let words_are = first_gives words split.0 split.1 ∙ (ap (λ ws. split.0.0 ∷ ws) (first_gives split.0.1 behind.0 behind.1) ∙ ap (λ w. w ∷ behind.0.0 ∷ behind.0.1) number.1) in
    subst (λ ws. Says (codes "tasks" ∷ ws) command) (sym words_are) (turns_give fuel.0 behind.0.0 behind.0.1 command number.0 behind.2)

audit_gives : (words : List (List ℕ)) (command : Command) → audit_of words ≡ Some command → Says (codes "audit" ∷ words) command
unfolding audit_of
audit_gives words command h =
    let one = some_from_bind (one_of words) (λ word. pair_of word >>= λ pair. Some (Audit pair.0 pair.1)) command h in
    let found = some_from_bind (pair_of one.0) (λ pair. Some (Audit pair.0 pair.1)) command one.2 in
    let pair = pair_of_gives one.0 found.0 found.1 in
    subst (Says (codes "audit" ∷ words)) (some_same (Audit found.0.0 found.0.1) command found.2)
    (record { is = pair.0; spelled = ap (λ ws. codes "audit" ∷ ws) (one_of_gives words one.0 one.1 ∙ ap (λ w. w ∷ []) pair.1); bare = refl; unruled = refl })

guard_gives : (words : List (List ℕ)) (command : Command) → guard_of words ≡ Some command → Says (codes "guard" ∷ words) command
unfolding guard_of
guard_gives words command h =
    let two = some_from_bind (two_of words) (λ two. pair_of two.0 >>= λ pair. number_of 1000000 two.1 >>= λ fuel. Some (Guard pair.0 pair.1 fuel)) command h in
    let found = some_from_bind (pair_of two.0.0) (λ pair. number_of 1000000 two.0.1 >>= λ fuel. Some (Guard pair.0 pair.1 fuel)) command two.2 in
    let fuel = some_from_bind (number_of 1000000 two.0.1) (λ fuel. Some (Guard found.0.0 found.0.1 fuel)) command found.2 in
    let pair = pair_of_gives two.0.0 found.0 found.1 in
    let number = number_of_gives 1000000 two.0.1 fuel.0 (omega arith) fuel.1 in
    let words_are = two_of_gives words two.0.0 two.0.1 two.1 in
    subst (Says (codes "guard" ∷ words)) (some_same (Guard found.0.0 found.0.1 fuel.0) command fuel.2)
    (record {
      is = (pair.0, number.0);
      spelled = ap (λ ws. codes "guard" ∷ ws) (words_are ∙ (ap (λ w. w ∷ two.0.1 ∷ []) pair.1 ∙ ap (λ w. pair_text found.0 ∷ w ∷ []) number.1));
      bare = refl;
      unruled = refl;
    })

explain_gives : (words : List (List ℕ)) (command : Command) → explain_of words ≡ Some command → Says (codes "explain" ∷ words) command
unfolding explain_of
explain_gives words command h =
    let one = some_from_bind (one_of words) (λ word. pair_of word >>= λ pair. Some (Explain pair.0 pair.1)) command h in
    let found = some_from_bind (pair_of one.0) (λ pair. Some (Explain pair.0 pair.1)) command one.2 in
    let pair = pair_of_gives one.0 found.0 found.1 in
    subst (Says (codes "explain" ∷ words)) (some_same (Explain found.0.0 found.0.1) command found.2)
    (record { is = pair.0; spelled = ap (λ ws. codes "explain" ∷ ws) (one_of_gives words one.0 one.1 ∙ ap (λ w. w ∷ []) pair.1); bare = refl; unruled = refl })

command_gives : (word : List ℕ) (words : List (List ℕ)) (command : Command) → command_with word words ≡ Some command → Says (word ∷ words) command
unfolding command_with
command_gives word words command h =
    ⊎_elim (λ it. by (codes "drop") it.0 (drop_gives words command it.1)) (λ it.
    ⊎_elim (λ it. by (codes "check") it.0 (check_gives words command it.1)) (λ it.
    ⊎_elim (λ it. by (codes "sig") it.0 (sig_gives words command it.1)) (λ it.
    ⊎_elim (λ it. by (codes "derive") it.0 (derive_gives words command it.1)) (λ it.
    ⊎_elim (λ it. by (codes "run") it.0 (run_gives words command it.1)) (λ it.
    ⊎_elim (λ it. by (codes "tasks") it.0 (tasks_gives words command it.1)) (λ it.
    ⊎_elim (λ it. by (codes "audit") it.0 (audit_gives words command it.1)) (λ it.
    ⊎_elim (λ it. by (codes "guard") it.0 (guard_gives words command it.1)) (λ it.
    ⊎_elim (λ it. by (codes "explain") it.0 (explain_gives words command it.1)) (λ it. clash it.1)
    (choice (bytes_eq word (codes "explain")) (explain_of words) None command it.1))
    (choice (bytes_eq word (codes "guard")) (guard_of words) _ command it.1))
    (choice (bytes_eq word (codes "audit")) (audit_of words) _ command it.1))
    (choice (bytes_eq word (codes "tasks")) (tasks_of words) _ command it.1))
    (choice (bytes_eq word (codes "run")) (run_of words) _ command it.1))
    (choice (bytes_eq word (codes "derive")) (derive_of words) _ command it.1))
    (choice (bytes_eq word (codes "sig")) (sig_of words) _ command it.1))
    (choice (bytes_eq word (codes "check")) (check_of words) _ command it.1))
    (choice (bytes_eq word (codes "drop")) (drop_of words) _ command h)
  where
    by : (asked : List ℕ) → bytes_eq word asked ≡ true → Says (asked ∷ words) command → Says (word ∷ words) command
    by asked test says = subst (λ w. Says (w ∷ words) command) (sym (is_word word asked test)) says

    clash : {B : Type 0} → ◌≡◌ {A = Option Command} None (Some command) → B
    clash e = cc

-- kinds of devices
kind_gives : (words : List (List ℕ)) (kind : Kind) → kind_of words ≡ Some kind → IsKind kind × (words ≡ kind_words kind)
unfolding kind_of kind_with file_of
kind_gives words kind h =
    let split = some_from_bind (first_and_rest words) (λ split. kind_with split.0 split.1) kind h in
    let is = in_words split.0.0 split.0.1 split.2 in
    (is.0, first_gives words split.0 split.1 ∙ is.1)
  where
    empty : (rest : List (List ℕ)) → not (nat_le (length rest) 0) ≡ false → rest ≡ []
    empty [] t = refl
    empty (w ∷ ws) t = let clash : 0 < length (w ∷ ws) = omega arith in absurd (grind (arith, nat_tests))

    file_map : (o : Option (List ℤ)) → option_map File o ≡ Some kind → (numbers : List ℤ) × (o ≡ Some numbers) × (File numbers ≡ kind)
    file_map None e = cc
    file_map (Some numbers) e = (numbers, refl, cc)

    of_file : (rest : List (List ℕ)) → option_map File (all_of signed_of rest) ≡ Some kind → IsKind kind × (codes "file" ∷ rest ≡ kind_words kind)
    of_file rest e =
        let found = file_map (all_of signed_of rest) e in
        let each = all_of_gives signed_of (λ z. IsTrue (has_64_bits z)) signed_decimal signed_of_gives rest found.0 found.1 in
        subst (λ it. IsKind it × (codes "file" ∷ rest ≡ kind_words it)) found.2 (each.0, ap (λ ws. codes "file" ∷ ws) each.1)

    plain : (asked word : List ℕ) (rest : List (List ℕ)) (it : Kind) → IsKind it → asked ∷ [] ≡ kind_words it → bytes_eq word asked ≡ true → rest ≡ [] → it ≡ kind → IsKind kind × (word ∷ rest ≡ kind_words kind)
    plain asked word rest it is spelled test none same =
        subst (λ k. IsKind k × (word ∷ rest ≡ kind_words k)) same
        (is, ap (λ w. w ∷ rest) (is_word word asked test) ∙ (ap (λ ws. asked ∷ ws) none ∙ spelled))

    clash : {B : Type 0} → ◌≡◌ {A = Option Kind} None (Some kind) → B
    clash e = cc

    in_words : (word : List ℕ) (rest : List (List ℕ)) → kind_with word rest ≡ Some kind → IsKind kind × (word ∷ rest ≡ kind_words kind)
    in_words word rest e =
        ⊎_elim (λ it. let is = of_file rest it.1 in (is.0, ap (λ w. w ∷ rest) (is_word word (codes "file") it.0) ∙ is.1)) (λ it.
        ⊎_elim (λ it. clash it.1) (λ bare.
        ⊎_elim (λ it. plain (codes "console") word rest Console tt refl it.0 (empty rest bare.0) (some_same Console kind it.1)) (λ it.
        ⊎_elim (λ it. plain (codes "counter") word rest Counter tt refl it.0 (empty rest bare.0) (some_same Counter kind it.1)) (λ it. clash it.1)
        (choice (bytes_eq word (codes "counter")) (Some Counter) None kind it.1))
        (choice (bytes_eq word (codes "console")) (Some Console) _ kind bare.1))
        (choice (not (nat_le (length rest) 0)) None _ kind it.1))
        (choice (bytes_eq word (codes "file")) (option_map File (all_of signed_of rest)) _ kind e)

-- what a line and the text and the rules behind it say
abbrev pub item_from : Head → List ℕ → List Rule → Item
item_from (Device device) text rules = Declares device
item_from (PutHead name count) text rules = Commands (Put name text)
item_from (VerifyHead count) text rules = Commands (Verify text)
item_from (PolicyHead count) text rules = Commands (Policy rules)
item_from (ReplayHead owner definition fuel count) text rules = Commands (Replay owner definition fuel text)
item_from (CommandHead command) text rules = Commands command

-- what the line of an item says
abbrev pub command_head : Command → Head
command_head (Put name text) = PutHead name (length (lines_of text))
command_head (Drop name) = CommandHead (Drop name)
command_head Check = CommandHead Check
command_head (Sig name) = CommandHead (Sig name)
command_head (Derive owner definition) = CommandHead (Derive owner definition)
command_head (Run owner definition fuel) = CommandHead (Run owner definition fuel)
command_head (Tasks fuel schedule entries) = CommandHead (Tasks fuel schedule entries)
command_head (Verify text) = VerifyHead (length (lines_of text))
command_head (Policy rules) = PolicyHead (length rules)
command_head (Audit owner definition) = CommandHead (Audit owner definition)
command_head (Guard owner definition fuel) = CommandHead (Guard owner definition fuel)
command_head (Explain owner definition) = CommandHead (Explain owner definition)
command_head (Replay owner definition fuel text) = ReplayHead owner definition fuel (length (lines_of text))

abbrev pub head_for : Item → Head
head_for (Declares device) = Device device
head_for (Commands command) = command_head command

command_from : (command : Command) → item_from (command_head command) (command_text command) (command_rules command) ≡ Commands command
command_from (Put name text) = refl
command_from (Drop name) = refl
command_from Check = refl
command_from (Sig name) = refl
command_from (Derive owner definition) = refl
command_from (Run owner definition fuel) = refl
command_from (Tasks fuel schedule entries) = refl
command_from (Verify text) = refl
command_from (Policy rules) = refl
command_from (Audit owner definition) = refl
command_from (Guard owner definition fuel) = refl
command_from (Explain owner definition) = refl
command_from (Replay owner definition fuel text) = refl

-- an item is what its line and the text and the rules behind say
pub item_from-head : (item : Item) → item_from (head_for item) (item_text item) (item_rules item) ≡ item
item_from-head (Declares device) = refl
item_from-head (Commands command) = command_from command

command_size : (command : Command) → length (lines_of (command_text command)) ≡ text_size (command_head command)
command_size (Put name text) = refl
command_size (Drop name) = refl
command_size Check = refl
command_size (Sig name) = refl
command_size (Derive owner definition) = refl
command_size (Run owner definition fuel) = refl
command_size (Tasks fuel schedule entries) = refl
command_size (Verify text) = refl
command_size (Policy rules) = refl
command_size (Audit owner definition) = refl
command_size (Guard owner definition fuel) = refl
command_size (Explain owner definition) = refl
command_size (Replay owner definition fuel text) = refl

-- the line says how many lines of text stand behind it
pub text_size-head : (item : Item) → length (lines_of (item_text item)) ≡ text_size (head_for item)
text_size-head (Declares device) = refl
text_size-head (Commands command) = command_size command

command_count : (command : Command) → length (command_rules command) ≡ rule_count (command_head command)
command_count (Put name text) = refl
command_count (Drop name) = refl
command_count Check = refl
command_count (Sig name) = refl
command_count (Derive owner definition) = refl
command_count (Run owner definition fuel) = refl
command_count (Tasks fuel schedule entries) = refl
command_count (Verify text) = refl
command_count (Policy rules) = refl
command_count (Audit owner definition) = refl
command_count (Guard owner definition fuel) = refl
command_count (Explain owner definition) = refl
command_count (Replay owner definition fuel text) = refl

-- and how many rules
pub rule_count-head : (item : Item) → length (item_rules item) ≡ rule_count (head_for item)
rule_count-head (Declares device) = refl
rule_count-head (Commands command) = command_count command

-- the line is that of the item which it says with the text and the rules
pub record IsLineOf (line : Line) (head : Head) (text : List ℕ) (rules : List Rule) : Type 0 where
  pub item : IsItem (item_from head text rules)
  pub spelled : line ≡ joined 32 (item_words (item_from head text rules))
  pub texts : item_text (item_from head text rules) ≡ text
  pub ruled : item_rules (item_from head text rules) ≡ rules

pub no_length : {A : Type 0} (xs : List A) → length xs ≡ 0 → xs ≡ []
no_length [] e = refl
no_length (x ∷ xs) e = absurd (omega arith)

no_lines : (text : List ℕ) → AreWholeLines text → length (lines_of text) ≡ 0 → text ≡ []
no_lines text whole none = sym (terminated-lines_of text whole) ∙ ap terminated (no_length (lines_of text) none)

module _ (text : List ℕ) (whole : AreWholeLines text) (rules : List Rule) (are : AllByRecursion IsRule rules) where
  -- the words are those of the item
  HeadWords : List (List ℕ) → Head → Type 0
  HeadWords words head =
      (length (lines_of text) ≡ text_size head → length rules ≡ rule_count head
      → IsItem (item_from head text rules) × (words ≡ item_words (item_from head text rules))
      × (item_text (item_from head text rules) ≡ text) × (item_rules (item_from head text rules) ≡ rules))

  device_gives : (words : List (List ℕ)) (head : Head) → device_of words ≡ Some head → HeadWords (codes "device" ∷ words) head
  unfolding device_of HeadWords
  device_gives words head h =
      let split = some_from_bind (first_and_rest words) (λ split. name_of split.0 >>= λ name. kind_of split.1 >>= λ kind. Some (Device (record { name = name; kind = kind }))) head h in
      let name = some_from_bind (name_of split.0.0) (λ name. kind_of split.0.1 >>= λ kind. Some (Device (record { name = name; kind = kind }))) head split.2 in
      let kind = some_from_bind (kind_of split.0.1) (λ kind. Some (Device (record { name = name.0; kind = kind }))) head name.2 in
      let named = name_of_gives split.0.0 name.0 name.1 in
      let kinds = kind_gives split.0.1 kind.0 kind.1 in
      subst (HeadWords (codes "device" ∷ words)) (some_same (Device (record { name = name.0; kind = kind.0 })) head kind.2)
      (λ size many. ((named.0, kinds.0), ap (λ ws. codes "device" ∷ ws) (first_gives words split.0 split.1 ∙ (ap (λ w. w ∷ split.0.1) named.1 ∙ ap (λ ws. encode_utf8_all name.0 ∷ ws) kinds.1)), sym (no_lines text whole size), sym (no_length rules many)))

  put_gives : (words : List (List ℕ)) (head : Head) → put_of words ≡ Some head → HeadWords (codes "put" ∷ words) head
  unfolding put_of HeadWords
  put_gives words head h =
      let two = some_from_bind (two_of words) (λ two. name_of two.0 >>= λ name. number_of 4194304 two.1 >>= λ count. Some (PutHead name count)) head h in
      let name = some_from_bind (name_of two.0.0) (λ name. number_of 4194304 two.0.1 >>= λ count. Some (PutHead name count)) head two.2 in
      let count = some_from_bind (number_of 4194304 two.0.1) (λ count. Some (PutHead name.0 count)) head name.2 in
      let named = name_of_gives two.0.0 name.0 name.1 in
      let number = number_of_gives 4194304 two.0.1 count.0 (omega arith) count.1 in
      subst (HeadWords (codes "put" ∷ words)) (some_same (PutHead name.0 count.0) head count.2)
      (λ size many. (
        (named.0, whole, omega (arith, number.0)),
        ap (λ ws. codes "put" ∷ ws) (two_of_gives words two.0.0 two.0.1 two.1 ∙ (ap (λ w. w ∷ two.0.1 ∷ []) named.1 ∙ (ap (λ w. encode_utf8_all name.0 ∷ w ∷ []) number.1 ∙ ap (λ n. encode_utf8_all name.0 ∷ decimal n ∷ []) (sym size)))),
        refl,
        sym (no_length rules many),
      ))

  verify_gives : (words : List (List ℕ)) (head : Head) → verify_of words ≡ Some head → HeadWords (codes "verify" ∷ words) head
  unfolding verify_of HeadWords
  verify_gives words head h =
      let one = some_from_bind (one_of words) (λ digits. number_of 4194304 digits >>= λ count. Some (VerifyHead count)) head h in
      let count = some_from_bind (number_of 4194304 one.0) (λ count. Some (VerifyHead count)) head one.2 in
      let number = number_of_gives 4194304 one.0 count.0 (omega arith) count.1 in
      subst (HeadWords (codes "verify" ∷ words)) (some_same (VerifyHead count.0) head count.2)
      (λ size many. (
        (whole, omega (arith, number.0)),
        ap (λ ws. codes "verify" ∷ ws) (one_of_gives words one.0 one.1 ∙ (ap (λ w. w ∷ []) number.1 ∙ ap (λ n. decimal n ∷ []) (sym size))),
        refl,
        sym (no_length rules many),
      ))

  policy_gives : (words : List (List ℕ)) (head : Head) → policy_of words ≡ Some head → HeadWords (codes "policy" ∷ words) head
  unfolding policy_of HeadWords
  policy_gives words head h =
      let one = some_from_bind (one_of words) (λ digits. number_of 256 digits >>= λ count. Some (PolicyHead count)) head h in
      let count = some_from_bind (number_of 256 one.0) (λ count. Some (PolicyHead count)) head one.2 in
      let number = number_of_gives 256 one.0 count.0 (omega arith) count.1 in
      subst (HeadWords (codes "policy" ∷ words)) (some_same (PolicyHead count.0) head count.2)
      (λ size many. (
        (are, omega (arith, number.0)),
        ap (λ ws. codes "policy" ∷ ws) (one_of_gives words one.0 one.1 ∙ (ap (λ w. w ∷ []) number.1 ∙ ap (λ n. decimal n ∷ []) (sym many))),
        sym (no_lines text whole size),
        refl,
      ))

  replay_gives : (words : List (List ℕ)) (head : Head) → replay_of words ≡ Some head → HeadWords (codes "replay" ∷ words) head
  unfolding replay_of HeadWords
  replay_gives words head h =
      let split = some_from_bind (first_and_rest words) (λ split. pair_of split.0 >>= λ pair. two_of split.1 >>= λ two. number_of 1000000 two.0 >>= λ fuel. number_of 4194304 two.1 >>= λ count. Some (ReplayHead pair.0 pair.1 fuel count)) head h in
      let pair = some_from_bind (pair_of split.0.0) (λ pair. two_of split.0.1 >>= λ two. number_of 1000000 two.0 >>= λ fuel. number_of 4194304 two.1 >>= λ count. Some (ReplayHead pair.0 pair.1 fuel count)) head split.2 in
      let two = some_from_bind (two_of split.0.1) (λ two. number_of 1000000 two.0 >>= λ fuel. number_of 4194304 two.1 >>= λ count. Some (ReplayHead pair.0.0 pair.0.1 fuel count)) head pair.2 in
      let fuel = some_from_bind (number_of 1000000 two.0.0) (λ fuel. number_of 4194304 two.0.1 >>= λ count. Some (ReplayHead pair.0.0 pair.0.1 fuel count)) head two.2 in
      let count = some_from_bind (number_of 4194304 two.0.1) (λ count. Some (ReplayHead pair.0.0 pair.0.1 fuel.0 count)) head fuel.2 in
      let named = pair_of_gives split.0.0 pair.0 pair.1 in
      let steps = number_of_gives 1000000 two.0.0 fuel.0 (omega arith) fuel.1 in
      let number = number_of_gives 4194304 two.0.1 count.0 (omega arith) count.1 in
      let words_are = first_gives words split.0 split.1 ∙ ap (λ ws. split.0.0 ∷ ws) (two_of_gives split.0.1 two.0.0 two.0.1 two.1) in
      subst (HeadWords (codes "replay" ∷ words)) (some_same (ReplayHead pair.0.0 pair.0.1 fuel.0 count.0) head count.2)
      (λ size many. (
        (named.0, steps.0, whole, omega (arith, number.0)),
        ap (λ ws. codes "replay" ∷ ws) (words_are ∙ (ap (λ w. w ∷ two.0.0 ∷ two.0.1 ∷ []) named.1 ∙ (ap (λ w. pair_text pair.0 ∷ w ∷ two.0.1 ∷ []) steps.1 ∙ (ap (λ w. pair_text pair.0 ∷ decimal fuel.0 ∷ w ∷ []) number.1 ∙ ap (λ n. pair_text pair.0 ∷ decimal fuel.0 ∷ decimal n ∷ []) (sym size))))),
        refl,
        sym (no_length rules many),
      ))

  command_map : (o : Option Command) (head : Head) → option_map CommandHead o ≡ Some head → (command : Command) × (o ≡ Some command) × (CommandHead command ≡ head)
  command_map None head e = cc
  command_map (Some command) head e = (command, refl, cc)

  head_gives : (word : List ℕ) (words : List (List ℕ)) (head : Head) → head_with word words ≡ Some head → HeadWords (word ∷ words) head
  unfolding head_with HeadWords
  head_gives word words head h =
      ⊎_elim (λ it. by (codes "device") it.0 (device_gives words head it.1)) (λ it.
      ⊎_elim (λ it. by (codes "put") it.0 (put_gives words head it.1)) (λ it.
      ⊎_elim (λ it. by (codes "verify") it.0 (verify_gives words head it.1)) (λ it.
      ⊎_elim (λ it. by (codes "policy") it.0 (policy_gives words head it.1)) (λ it.
      ⊎_elim (λ it. by (codes "replay") it.0 (replay_gives words head it.1)) (λ it. of_command (command_map (command_with word words) head it.1))
      (choice (bytes_eq word (codes "replay")) (replay_of words) _ head it.1))
      (choice (bytes_eq word (codes "policy")) (policy_of words) _ head it.1))
      (choice (bytes_eq word (codes "verify")) (verify_of words) _ head it.1))
      (choice (bytes_eq word (codes "put")) (put_of words) _ head it.1))
      (choice (bytes_eq word (codes "device")) (device_of words) _ head h)
    where
      by : (asked : List ℕ) → bytes_eq word asked ≡ true → HeadWords (asked ∷ words) head → HeadWords (word ∷ words) head
      by asked test says = subst (λ w. HeadWords (w ∷ words) head) (sym (is_word word asked test)) says

      of_command : ((command : Command) × (command_with word words ≡ Some command) × (CommandHead command ≡ head)) → HeadWords (word ∷ words) head
      of_command found =
          let says = command_gives word words found.0 found.1 in
          subst (HeadWords (word ∷ words)) found.2
          (λ size many. (says.is, says.spelled, says.bare ∙ sym (no_lines text whole size), says.unruled ∙ sym (no_length rules many)))

  pub head_of_gives : (line : Line) (head : Head) → head_of line ≡ Some head → length (lines_of text) ≡ text_size head → length rules ≡ rule_count head → IsLineOf line head text rules
  unfolding head_of HeadWords
  head_of_gives line head h size many =
      let split = some_from_bind (first_and_rest (split_at 32 line)) (λ split. head_with split.0 split.1) head h in
      let words = head_gives split.0.0 split.0.1 head split.2 size many in
      record {
        item = words.0;
        spelled = sym (joined-split_at 32 line) ∙ ap (joined 32) (first_gives (split_at 32 line) split.0 split.1 ∙ words.1);
        texts = words.2;
        ruled = words.3;
      }

-- the words of an item have no space
kind-lacks : (kind : Kind) → IsKind kind → AllLack 32 (kind_words kind)
kind-lacks Console is = (Lacks-test 32 (codes "console") refl, tt)
kind-lacks (File numbers) is =
    (Lacks-test 32 (codes "file") refl, AllLack-map signed_of (λ z. IsTrue (has_64_bits z)) signed_decimal 32 (λ z h. Lacks-signed z h) numbers is)
kind-lacks Counter is = (Lacks-test 32 (codes "counter") refl, tt)

schedule-lacks : (tasks : ℕ) (schedule : List ℕ) → tasks ≤ 8 → AllByRecursion (λ number. number < tasks) schedule → (c : ℕ) → c < 48 → AllLack c (map decimal schedule)
schedule-lacks tasks schedule few is c low =
    AllLack-map (number_of tasks) (λ number. number < tasks) decimal c (λ n h. Lacks-decimal c n low (omega arith)) schedule is

command-lacks : (command : Command) → IsCommand command → AllLack 32 (command_words command)
command-lacks (Put name text) is =
    (Lacks-test 32 (codes "put") refl, (Lacks-name 32 name refl is.0, (Lacks-decimal 32 (length (lines_of text)) (omega arith) (omega (arith, is.2)), tt)))
command-lacks (Drop name) is = (Lacks-test 32 (codes "drop") refl, (Lacks-name 32 name refl is, tt))
command-lacks Check is = (Lacks-test 32 (codes "check") refl, tt)
command-lacks (Sig name) is = (Lacks-test 32 (codes "sig") refl, (Lacks-name 32 name refl is, tt))
command-lacks (Derive owner definition) is = (Lacks-test 32 (codes "derive") refl, (Lacks-pair (owner, definition) is, tt))
command-lacks (Run owner definition fuel) is =
    (Lacks-test 32 (codes "run") refl, (Lacks-pair (owner, definition) is.0, (Lacks-decimal 32 fuel (omega arith) (omega (arith, is.1)), tt)))
command-lacks (Tasks fuel schedule entries) is =
    let turns = is.1 in (
      Lacks-test 32 (codes "tasks") refl,
      (
        Lacks-decimal 32 fuel (omega arith) (omega (arith, is.0)),
        (
          Lacks-joined 44 32 (map decimal schedule) refl (schedule-lacks (length entries) schedule is.4 turns.2 32 (omega arith)),
          AllLack-map pair_of IsPair pair_text 32 (λ pair h. Lacks-pair pair h) entries is.2,
        ),
      ),
    )
command-lacks (Verify text) is =
    (Lacks-test 32 (codes "verify") refl, (Lacks-decimal 32 (length (lines_of text)) (omega arith) (omega (arith, is.1)), tt))
command-lacks (Policy rules) is =
    (Lacks-test 32 (codes "policy") refl, (Lacks-decimal 32 (length rules) (omega arith) (omega (arith, is.1)), tt))
command-lacks (Audit owner definition) is = (Lacks-test 32 (codes "audit") refl, (Lacks-pair (owner, definition) is, tt))
command-lacks (Guard owner definition fuel) is =
    (Lacks-test 32 (codes "guard") refl, (Lacks-pair (owner, definition) is.0, (Lacks-decimal 32 fuel (omega arith) (omega (arith, is.1)), tt)))
command-lacks (Explain owner definition) is = (Lacks-test 32 (codes "explain") refl, (Lacks-pair (owner, definition) is, tt))
command-lacks (Replay owner definition fuel text) is =
    (Lacks-test 32 (codes "replay") refl, (Lacks-pair (owner, definition) is.0, (Lacks-decimal 32 fuel (omega arith) (omega (arith, is.1)), (Lacks-decimal 32 (length (lines_of text)) (omega arith) (omega (arith, is.3)), tt))))

-- what the words of a command say
kind_of-words : (kind : Kind) → IsKind kind → kind_of (kind_words kind) ≡ Some kind
unfolding kind_of kind_with file_of
kind_of-words Console is = refl
kind_of-words (File numbers) is =
    ap (option_map File) (all_of-map signed_of (λ z. IsTrue (has_64_bits z)) signed_decimal (λ z h. signed_of-decimal z h) numbers is)
kind_of-words Counter is = refl

schedule_of-text : (tasks : ℕ) (schedule : List ℕ) → tasks ≤ 8 → 0 < tasks → IsSchedule tasks schedule → schedule_of tasks (joined 44 (map decimal schedule)) ≡ Some schedule
unfolding schedule_of is_schedule
schedule_of-text tasks [] few some is = absurd (omega (arith, is.0))
schedule_of-text tasks (number ∷ numbers) few some is =
    let words = split_at-joined 44 (decimal number) (map decimal numbers) (schedule-lacks tasks (number ∷ numbers) few is.2 44 (omega arith)) in
    let each = all_of-map (number_of (tasks - 1)) (λ number. number < tasks) decimal complete (number ∷ numbers) is.2 in
    let low : nat_le 1 (length (number ∷ numbers)) ≡ true = (leb_holds 1 (length (number ∷ numbers)) is.0) in
    let high : nat_le (length (number ∷ numbers)) 64 ≡ true = (leb_holds (length (number ∷ numbers)) 64 is.1) in
    ap (λ ws. all_of (number_of (tasks - 1)) ws >>= λ numbers. cond (is_schedule tasks numbers) (Some numbers) None) words
    ∙ (ap (λ o. o >>= λ numbers. cond (is_schedule tasks numbers) (Some numbers) None) each
    ∙ rw (low, high, is.3) refl)
  where
    complete : (n : ℕ) → n < tasks → number_of (tasks - 1) (decimal n) ≡ Some n
    complete n h = number_of-decimal (tasks - 1) n (omega arith) (omega arith)

turns_of-words : (fuel : ℕ) (schedule : List ℕ) (entries : List (List ℕ × List ℕ)) → IsCommand (Tasks fuel schedule entries) → turns_of fuel (joined 44 (map decimal schedule)) (map pair_text entries) ≡ Some (Tasks fuel schedule entries)
unfolding turns_of
turns_of-words fuel schedule entries is =
    let each = all_of-map pair_of IsPair pair_text (λ pair h. pair_of-text pair h) entries is.2 in
    let same = length-map entries pair_text in
    let some = is.3 in
    let few = is.4 in
    let turns = schedule_of-text (length entries) schedule few some is.1 in
    let test : (nat_lt (length entries) 1 || nat_lt 8 (length entries)) ≡ false = grind (arith, nat_tests) in
    rw (same, test, each, turns) refl

head_of-joined : (word : List ℕ) (words : List (List ℕ)) → AllLack 32 (word ∷ words) → head_of (joined 32 (word ∷ words)) ≡ head_with word words
unfolding head_of
head_of-joined word words lack = rw (split_at-joined 32 word words lack) refl

device-says : (device : DeviceDecl) → IsName device.name → IsKind device.kind → head_with (codes "device") (encode_utf8_all device.name ∷ kind_words device.kind) ≡ Some (Device device)
unfolding head_with device_of
device-says device named kind = rw (name_of-encoded device.name named, kind_of-words device.kind kind) refl

put-says : (name text : List ℕ) → IsCommand (Put name text) → head_with (codes "put") (encode_utf8_all name ∷ decimal (length (lines_of text)) ∷ []) ≡ Some (command_head (Put name text))
unfolding head_with put_of
put-says name text is =
    rw (name_of-encoded name is.0, number_of-decimal 4194304 (length (lines_of text)) (omega arith) is.2) refl

drop-says : (name : List ℕ) → IsName name → head_with (codes "drop") (encode_utf8_all name ∷ []) ≡ Some (CommandHead (Drop name))
unfolding head_with command_with drop_of
drop-says name is = rw (name_of-encoded name is) refl

check-says : head_with (codes "check") [] ≡ Some (CommandHead Check)
unfolding head_with command_with check_of
check-says = refl

sig-says : (name : List ℕ) → IsName name → head_with (codes "sig") (encode_utf8_all name ∷ []) ≡ Some (CommandHead (Sig name))
unfolding head_with command_with sig_of
sig-says name is = rw (name_of-encoded name is) refl

derive-says : (pair : List ℕ × List ℕ) → IsPair pair → head_with (codes "derive") (pair_text pair ∷ []) ≡ Some (CommandHead (Derive pair.0 pair.1))
unfolding head_with command_with derive_of
derive-says pair is = rw (pair_of-text pair is) refl

run-says : (pair : List ℕ × List ℕ) (fuel : ℕ) → IsPair pair → fuel ≤ 1000000 → head_with (codes "run") (pair_text pair ∷ decimal fuel ∷ []) ≡ Some (CommandHead (Run pair.0 pair.1 fuel))
unfolding head_with command_with run_of
run-says pair fuel is low = rw (pair_of-text pair is, number_of-decimal 1000000 fuel (omega arith) low) refl

tasks-says : (fuel : ℕ) (schedule : List ℕ) (entries : List (List ℕ × List ℕ)) → IsCommand (Tasks fuel schedule entries)
    → head_with (codes "tasks") (decimal fuel ∷ joined 44 (map decimal schedule) ∷ map pair_text entries) ≡ Some (CommandHead (Tasks fuel schedule entries))
unfolding head_with command_with tasks_of
tasks-says fuel schedule entries is =
    rw (number_of-decimal 1000000 fuel (omega arith) is.0, turns_of-words fuel schedule entries is) refl

verify-says : (text : List ℕ) → IsCommand (Verify text) → head_with (codes "verify") (decimal (length (lines_of text)) ∷ []) ≡ Some (command_head (Verify text))
unfolding head_with verify_of
verify-says text is = rw (number_of-decimal 4194304 (length (lines_of text)) (omega arith) is.1) refl

policy-says : (rules : List Rule) → IsCommand (Policy rules) → head_with (codes "policy") (decimal (length rules) ∷ []) ≡ Some (command_head (Policy rules))
unfolding head_with policy_of
policy-says rules is = rw (number_of-decimal 256 (length rules) (omega arith) is.1) refl

audit-says : (pair : List ℕ × List ℕ) → IsPair pair → head_with (codes "audit") (pair_text pair ∷ []) ≡ Some (CommandHead (Audit pair.0 pair.1))
unfolding head_with command_with audit_of
audit-says pair is = rw (pair_of-text pair is) refl

guard-says : (pair : List ℕ × List ℕ) (fuel : ℕ) → IsPair pair → fuel ≤ 1000000 → head_with (codes "guard") (pair_text pair ∷ decimal fuel ∷ []) ≡ Some (CommandHead (Guard pair.0 pair.1 fuel))
unfolding head_with command_with guard_of
guard-says pair fuel is low = rw (pair_of-text pair is, number_of-decimal 1000000 fuel (omega arith) low) refl

explain-says : (pair : List ℕ × List ℕ) → IsPair pair → head_with (codes "explain") (pair_text pair ∷ []) ≡ Some (CommandHead (Explain pair.0 pair.1))
unfolding head_with command_with explain_of
explain-says pair is = rw (pair_of-text pair is) refl

replay-says : (pair : List ℕ × List ℕ) (fuel : ℕ) (text : List ℕ) → IsPair pair → fuel ≤ 1000000 → length (lines_of text) ≤ 4194304
    → head_with (codes "replay") (pair_text pair ∷ decimal fuel ∷ decimal (length (lines_of text)) ∷ []) ≡ Some (command_head (Replay pair.0 pair.1 fuel text))
unfolding head_with replay_of
replay-says pair fuel text is low few =
    rw (pair_of-text pair is, number_of-decimal 1000000 fuel (omega arith) low, number_of-decimal 4194304 (length (lines_of text)) (omega arith) few) refl

command-says : (command : Command) → IsCommand command → head_of (joined 32 (command_words command)) ≡ Some (command_head command)
command-says (Put name text) is = head_of-joined _ _ (command-lacks (Put name text) is) ∙ put-says name text is
command-says (Drop name) is = head_of-joined _ _ (command-lacks (Drop name) is) ∙ drop-says name is
command-says Check is = head_of-joined _ _ (command-lacks Check is) ∙ check-says
command-says (Sig name) is = head_of-joined _ _ (command-lacks (Sig name) is) ∙ sig-says name is
command-says (Derive owner definition) is = head_of-joined _ _ (command-lacks (Derive owner definition) is) ∙ derive-says (owner, definition) is
command-says (Run owner definition fuel) is = head_of-joined _ _ (command-lacks (Run owner definition fuel) is) ∙ run-says (owner, definition) fuel is.0 is.1
command-says (Tasks fuel schedule entries) is = head_of-joined _ _ (command-lacks (Tasks fuel schedule entries) is) ∙ tasks-says fuel schedule entries is
command-says (Verify text) is = head_of-joined _ _ (command-lacks (Verify text) is) ∙ verify-says text is
command-says (Policy rules) is = head_of-joined _ _ (command-lacks (Policy rules) is) ∙ policy-says rules is
command-says (Audit owner definition) is = head_of-joined _ _ (command-lacks (Audit owner definition) is) ∙ audit-says (owner, definition) is
command-says (Guard owner definition fuel) is = head_of-joined _ _ (command-lacks (Guard owner definition fuel) is) ∙ guard-says (owner, definition) fuel is.0 is.1
command-says (Explain owner definition) is = head_of-joined _ _ (command-lacks (Explain owner definition) is) ∙ explain-says (owner, definition) is
command-says (Replay owner definition fuel text) is = head_of-joined _ _ (command-lacks (Replay owner definition fuel text) is) ∙ replay-says (owner, definition) fuel text is.0 is.1 is.3

-- the line of an item says what the item is
pub head_of-item : (item : Item) → IsItem item → head_of (joined 32 (item_words item)) ≡ Some (head_for item)
head_of-item (Declares device) is =
    head_of-joined _ _ (Lacks-test 32 (codes "device") refl, (Lacks-name 32 device.name refl is.0, kind-lacks device.kind is.1)) ∙ device-says device is.0 is.1
head_of-item (Commands command) is = command-says command is
