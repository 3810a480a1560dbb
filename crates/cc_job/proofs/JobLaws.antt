-- Reading gives the job of bytes, or the place where they are none; and bytes are the text of at most one job.
use Rattle.std.proofs.Common.{◌≡◌, ℕ, zero, suc, ◌+◌, ◌-◌, ◌<◌, ◌≤◌, Bool, true, false, ◌==◌, cond, List, [], ◌∷◌, ◌++◌, length, map, take, drop, replicate, Option, Some, None, refl, sym, ap, ◌∙◌, subst, inl, inr, ◌⊎◌, ⊎_elim, arith}
use Rattle.std.specs.Prelude.{nat_lt, unwrap_or}
use Rattle.std.specs.List.{IsDistinct, AllByRecursion}
use Rattle.std.specs.Str.{bytes_eq}
use Rattle.std.proofs.lemmas.List.{append-nil, append_assoc, length-append, length-map, take-append-drop, take_at, length-take-le, length-replicate}
use Rattle.std.proofs.lemmas.Bool.Decides.{nat_tests, Decides-eqb}
use Rattle.std.proofs.lemmas.Slice.Eq.{bytes_eq-Decides}
use Rattle.std.proofs.lemmas.Bool.{cases_lt}
use Rattle.cc_base.specs.declared.device.DeviceDecl.{DeviceDecl}
use Rattle.cc_policy.specs.declared.policy.Rule.{Rule}
use Rattle.cc_job.specs.declared.job.Job.{Job}
use Rattle.cc_job.specs.declared.job.Command.{Command}
use Rattle.cc_job.specs.declared.head.Head.{Head}
use Rattle.cc_job.specs.declared.head.Head.TheVariants.{Device, Put as PutHead, Verify as VerifyHead, Policy as PolicyHead, Replay as ReplayHead, Command as CommandHead}
use Rattle.cc_words.specs.Words.{joined}
use Rattle.cc_words.specs.Lines.{Line, lines_of, is_whole_behind, text_cut, next_line}
use Rattle.cc_job.specs.Jobs.{Item, Declares, Commands, item_words, item_text, item_rules, item_lines, rule_line, IsRule, IsItem, AreItems, items_of, last_text, first_line, IsJob, BeginsJob, IsBadAt, BytesHaveOneJob, BytesHaveOneBadLine}
use Rattle.cc_job.specs.Reading.{head_of, text_size, rule_count, lines_behind, has_device, admits, is_admitted, devices_with, commands_with, Rules, Are, BadRule, TooFew, rules_cut, Next, Read, BadLine, CutShort, next_rules, next_text, next_head, next_in, next_item}
use Rattle.cc_words.proofs.Splits.{AllLack}
use Rattle.cc_words.proofs.LineLists.{terminated, is_whole-append, back_empty, FirstLine, next_line-first, lines_of-terminated, is_whole-terminated, lines_of-whole, lines-lack, AllLack-append, AllLack-front, AllLack-back, lines-length, cons_parts, Cut, text_cut_gives, text_cut-short}
use Rattle.cc_job.proofs.HeadLaws.{item_from, head_for, item_from-head, text_size-head, rule_count-head, no_length, IsLineOf, head_of-item}
use Rattle.cc_job.proofs.RuleLaws.{rules-lack, none_among, any_rule}
use Rattle.cc_job.proofs.RuleCuts.{ReadRules, BadRules, FewRules, Told, rules_cut_told, empty_rest}
use Rattle.cc_job.proofs.ItemLists.{rules_are, lines_with, lines_with-length, equal_fronts, AreItems-none, AreItems-one, Leads, leads-nothing, leads-blank, leads-item}
use Rattle.cc_job.proofs.Standing.{names_of, items_in, Stands, job_with, whole_job, map-append, begins_front, begins_take, take_front, begins_here, last_text-push, Added, added, item_lines_are, line_of_text, one_kind, lines_behind-sum, append_empty}

-- The items of a job whose lines go on with a line that is not empty: one of them has that line.
record Goes (job : Job) (items : List Item) (line : Line) (more : List Line) : Type 0 where
  item : Item
  is : IsItem item
  rest : List Line
  others : List Item
  spelled : line ∷ more ≡ item_lines item ++ rest
  behind : AreItems rest others
  all : items_of job ≡ items ++ item ∷ others

goes_with : (job : Job) (items : List Item) (b : ℕ) (bs : List ℕ) (more : List Line) (others : List Item) → items_of job ≡ items ++ others → AreItems ((b ∷ bs) ∷ more) others → Goes job items (b ∷ bs) more
goes_with job items b bs more [] all are = cc
goes_with job items b bs more (item ∷ others) all are =
    record { item = item; is = are.1; rest = are.0; others = others; spelled = are.2; behind = are.3; all = all }

goes : (front : List Line) (items : List Item) → Leads front items → (bytes : List ℕ) (job : Job) → IsJob bytes job → (b : ℕ) (bs : List ℕ) (more : List Line)
    → lines_of bytes ≡ (first_line ∷ front) ++ (b ∷ bs) ∷ more → Goes job items (b ∷ bs) more
goes front items leads bytes job is b bs more e =
    let same = (cons_parts first_line first_line is.behind (front ++ (b ∷ bs) ∷ more) (sym is.begins ∙ e)).1 in
    let found = leads.split ((b ∷ bs) ∷ more) (items_of job) (subst (λ it. AreItems it (items_of job)) same is.items) in
    goes_with job items b bs more found.0 found.1 found.2

-- the line says what its item is
goes_says : (job : Job) (items : List Item) (line : Line) (more : List Line) (goes : Goes job items line more) → head_of line ≡ Some (head_for goes.item)
goes_says job items line more goes =
    let parts = cons_parts line (joined 32 (item_words goes.item)) more (lines_with goes.item ++ goes.rest) goes.spelled in
    ap head_of parts.0 ∙ head_of-item goes.item goes.is

-- devices stand before commands
no_device : (commands : List Command) (items : List Item) (device : DeviceDecl) (others : List Item) → items ++ Declares device ∷ others ≡ map Commands commands → ⊥
no_device [] [] device others e = cc
no_device (command ∷ commands) [] device others e = cc
no_device [] (item ∷ items) device others e = cc
no_device (command ∷ commands) (item ∷ items) device others e =
    no_device commands items device others (cons_parts item (Commands command) (items ++ Declares device ∷ others) (map Commands commands) e).1

abbrev Before : List DeviceDecl → List Command → DeviceDecl → List DeviceDecl → Type 0
Before devices commands device all = (commands ≡ []) × (more : List DeviceDecl) × (all ≡ devices ++ device ∷ more)

device_first : (devices : List DeviceDecl) (commands : List Command) (device : DeviceDecl) (others : List Item) (all : List DeviceDecl) (orders : List Command)
    → items_in devices commands ++ Declares device ∷ others ≡ items_in all orders → Before devices commands device all
device_first [] [] device others [] [] e = cc
device_first [] [] device others [] (order ∷ orders) e = cc
device_first [] [] device others (one ∷ all) orders e =
    let same = (cons_parts (Declares device) (Declares one) others (items_in all orders) e).0 in
    (refl, all, ap (λ it. it ∷ all) (declared same))
  where
    declared : Declares device ≡ Declares one → one ≡ device
    declared h = cc
device_first [] (command ∷ commands) device others [] orders e = absurd (no_device orders (map Commands (command ∷ commands)) device others e)
device_first [] (command ∷ commands) device others (one ∷ all) orders e = cc
device_first (first ∷ devices) commands device others [] [] e = cc
device_first (first ∷ devices) commands device others [] (order ∷ orders) e = cc
device_first (first ∷ devices) commands device others (one ∷ all) orders e =
    let parts = cons_parts (Declares first) (Declares one) (items_in devices commands ++ Declares device ∷ others) (items_in all orders) e in
    let deeper = device_first devices commands device others all orders parts.1 in
    (deeper.0, deeper.1, ap (λ it. it ∷ all) (declared parts.0) ∙ ap (λ it. first ∷ it) deeper.2)
  where
    declared : Declares first ≡ Declares one → one ≡ first
    declared h = cc

pub any_before : (device : DeviceDecl) (devices more : List DeviceDecl) → IsDistinct bytes_eq (names_of (devices ++ device ∷ more)) → has_device devices device ≡ false
unfolding IsDistinct
any_before device [] more apart = refl
any_before device (other ∷ devices) more apart = rw (differs (devices) apart.0, any_before device devices more apart.1) refl
  where
    differs : (devices : List DeviceDecl) → AllByRecursion (λ y. bytes_eq other.name y ≡ false) (names_of (devices ++ device ∷ more)) → bytes_eq device.name other.name ≡ false
    differs [] each = turned each.0
      where
        turned : bytes_eq other.name device.name ≡ false → bytes_eq device.name other.name ≡ false
        turned h = elim (bytes_eq device.name other.name) as (λ t. bytes_eq device.name other.name ≡ t → t ≡ false) [
          | true ↦ λ e. let same = (bytes_eq-Decides other.name device.name).1 (sym ((bytes_eq-Decides device.name other.name).0 e)) in cc
          | false ↦ λ e. refl
        ] refl
    differs (x ∷ devices) each = differs devices each.1

-- a device that may not be declared here is declared in no job
admits_any : (devices : List DeviceDecl) (commands : List Command) (device : DeviceDecl) (bytes : List ℕ) (job : Job) → IsJob bytes job → Before devices commands device job.devices → admits devices commands device ≡ true
unfolding admits
admits_any devices commands device bytes job is before =
    let few : length (devices ++ device ∷ before.1) ≤ 16 = subst (λ it. length it ≤ 16) before.2 is.few in
    let less : nat_lt (length devices) 16 ≡ true = room (length devices) (length before.1) (omega (arith, length-append devices (device ∷ before.1))) in
    let apart = any_before device devices before.1 (subst (λ it. IsDistinct bytes_eq (names_of it)) before.2 is.names) in
    let none : (length commands == 0) ≡ true = (Decides-eqb (length commands) 0).1 (ap length before.0) in
    rw (none, less, apart) refl
  where
    room : (n m : ℕ) → n + suc m ≤ 16 → nat_lt n 16 ≡ true
    room n m h = grind (arith, nat_tests)

-- An item whose line may stand here begins jobs, with the lines of a text and of rules behind its line.
begins_item : (front : List Line) (devices : List DeviceDecl) (commands : List Command) → Leads front (items_in devices commands) → length devices ≤ 16 → IsDistinct bytes_eq (names_of devices) → AllLack 10 (first_line ∷ front)
    → (line : Line) (head : Head) → AllLack 10 (line ∷ []) → head_of line ≡ Some head → is_admitted devices commands head ≡ true
    → (lines : List Line) → AllLack 10 lines → length lines ≡ text_size head → (rules : List Rule) → AllByRecursion IsRule rules → length rules ≡ rule_count head
    → BeginsJob ((first_line ∷ front) ++ line ∷ (lines ++ map rule_line rules))
begins_item front devices commands leads few names lack line head line_lacks says admitted lines lines_lack size rules are many = record {
  bytes = terminated (first_line ∷ all);
  job = job_with (devices_with devices head) (commands_with commands head text rules);
  is = whole_job all (devices_with devices head) (commands_with commands head text rules) all_lack.1
      (subst (Leads all) (sym more.items) (subst (λ it. Leads (front ++ it) (items_in devices commands ++ item_from head text rules ∷ [])) lines_are (leads-item front (items_in devices commands) leads (item_from head text rules) of.item)))
      more.few more.names;
  behind = [];
  begins = lines_of-whole (first_line ∷ all) all_lack ∙ sym (append-nil (first_line ∷ all));
}
  where
    all : List Line
    all = front ++ line ∷ (lines ++ map rule_line rules)

    text : List ℕ
    text = terminated lines

    of : IsLineOf line head text rules
    of = line_of_text line head lines rules says lines_lack size are many

    lines_are : item_lines (item_from head text rules) ≡ line ∷ (lines ++ map rule_line rules)
    lines_are = item_lines_are line head text rules lines lines_lack refl of

    more : Added devices commands head text rules
    more = added devices commands head text rules admitted few names

    all_lack : AllLack 10 (first_line ∷ all)
    all_lack =
        AllLack-append 10 (first_line ∷ front) (line ∷ (lines ++ map rule_line rules)) lack
        (line_lacks.0, AllLack-append 10 lines (map rule_line rules) lines_lack (rules-lack rules are))

-- a device that may not be declared here is declared in no job
admitted_any : (bytes : List ℕ) (job : Job) → IsJob bytes job → (devices : List DeviceDecl) (commands : List Command) (line : Line) (more : List Line) (at : Goes job (items_in devices commands) line more)
    → (head : Head) → head ≡ head_for at.item → is_admitted devices commands head ≡ true
admitted_any bytes job is devices commands line more at (Device device) h =
    let item = sym (item_from-head at.item) ∙ ap (λ it. item_from it (item_text at.item) (item_rules at.item)) (sym h) in
    admits_any devices commands device bytes job is
    (device_first devices commands device at.others job.devices job.commands (ap (λ it. items_in devices commands ++ it ∷ at.others) (sym item) ∙ sym at.all))
admitted_any bytes job is devices commands line more at (PutHead name count) h = refl
admitted_any bytes job is devices commands line more at (VerifyHead count) h = refl
admitted_any bytes job is devices commands line more at (PolicyHead count) h = refl
admitted_any bytes job is devices commands line more at (ReplayHead owner definition fuel count) h = refl
admitted_any bytes job is devices commands line more at (CommandHead command) h = refl

-- the line says what the item says
same_head : (job : Job) (items : List Item) (line : Line) (more : List Line) (at : Goes job items line more) (head : Head) → head_of line ≡ Some head → head ≡ head_for at.item
same_head job items line more at head says = unwrap (sym says ∙ goes_says job items line more at)
  where
    unwrap : Some head ≡ Some (head_for at.item) → head ≡ head_for at.item
    unwrap h = ap (λ o. unwrap_or o head) h

-- the lines behind it are those of the item, and others
same_behind : (job : Job) (items : List Item) (line : Line) (more : List Line) (at : Goes job items line more) → more ≡ lines_with at.item ++ at.rest
same_behind job items line more at =
    (cons_parts line (joined 32 (item_words at.item)) more (lines_with at.item ++ at.rest) at.spelled).1

-- A line at which no job goes on, behind lines that begin a job.
bad_line : (bytes : List ℕ) (before : List Line) (line : Line) (behind : List Line) (number : ℕ) → lines_of bytes ≡ before ++ line ∷ behind → BeginsJob before → number ≡ length before + 1
    → ((other : List ℕ) (job : Job) → IsJob other job → (more : List Line) → lines_of other ≡ before ++ line ∷ more → ⊥) → IsBadAt bytes number
bad_line bytes before line behind number spelled begins place refuses =
    record {
      none = λ job is. refuses bytes job is behind spelled;
      ends = inl (low, λ goes_on. refuses goes_on.bytes goes_on.job goes_on.is goes_on.behind (goes_on.begins ∙ (ap (λ it. it ++ goes_on.behind) front ∙ append_assoc before (line ∷ []) goes_on.behind)));
      first = λ earlier less. subst BeginsJob (sym (ap (take earlier) spelled ∙ take_front earlier before (line ∷ behind) (omega arith))) (begins_take earlier before begins);
    }
  where
    low : number ≤ length (lines_of bytes)
    low = omega (arith, ap length spelled, length-append before (line ∷ behind))

    front : take number (lines_of bytes) ≡ before ++ line ∷ []
    front =
        let size : length (before ++ line ∷ []) ≡ number = omega (arith, length-append before (line ∷ [])) in
        ap (take number) (spelled ∙ sym (append_assoc before (line ∷ []) behind))
        ∙ take_at (before ++ line ∷ []) behind number size

-- a line with nothing in it
abbrev pub blank_line : Line
blank_line = []

-- a text that is cut short
record Short (behind : List ℕ) (count : ℕ) : Type 0 where
  few : length (lines_of behind) ≤ count
  none : text_cut count behind ≡ None

short : (behind : List ℕ) (count : ℕ) → text_cut count behind ≡ None → Short behind count
short behind count none = record { few = low; none = none }
  where
    lines : List Line
    lines = lines_of behind

    long : count < length lines → ⊥
    long h =
        let front : length (take count lines) ≡ count = length-take-le count lines (omega arith) in
        let tail = text_cut-short (take count lines) (drop count lines) behind (ap (λ n. text_cut n behind) front ∙ none) (sym (take-append-drop count lines)) in
        let sizes = ap length (take-append-drop count lines) in
        let empty = ap length tail.0 in
        omega (arith, sizes, empty, front, length-append (take count lines) (drop count lines))

    low : length lines ≤ count
    low = ⊎_elim (λ more. absurd (long more)) (λ less. less) (cases_lt count (length lines))

no_cut_of_nothing : (behind : List ℕ) → text_cut 0 behind ≡ None → ⊥
no_cut_of_nothing [] h = cc
no_cut_of_nothing (b ∷ bs) h = cc

pub blanks_lack : (n : ℕ) → AllLack 10 (replicate n blank_line)
blanks_lack zero = tt
blanks_lack (suc n) = (tt, blanks_lack n)

pub all_any : (n : ℕ) → AllByRecursion IsRule (replicate n any_rule)
all_any zero = tt
all_any (suc n) = ((tt, tt), all_any n)

pub all_append : (rules others : List Rule) → AllByRecursion IsRule rules → AllByRecursion IsRule others → AllByRecursion IsRule (rules ++ others)
all_append [] others are all = all
all_append (rule ∷ rules) others are all = (are.0, all_append rules others are.1 all)

ends_shorter : (b : ℕ) (bs : List ℕ) (line : Line) (behind : List ℕ) → FirstLine (b ∷ bs) line behind → length behind < length (b ∷ bs)
ends_shorter b bs line behind first =
    ⊎_elim (λ is. fed (ap length is)) (λ last. bare (ap length last.1)) first.ends
  where
    fed : length (b ∷ bs) ≡ length (line ++ 10 ∷ behind) → length behind < length (b ∷ bs)
    fed e = omega (arith, length-append line (10 ∷ behind))

    bare : length behind ≡ length {A = ℕ} [] → length behind < length (b ∷ bs)
    bare e = omega arith

-- one turn of reading
pub record Turn (bytes rest behind : List ℕ) (devices : List DeviceDecl) (commands : List Command) (number : ℕ) : Type 0 where
  pub stands : Stands bytes behind devices commands number
  pub shorter : length behind < length rest

-- what reading an item comes to is so
abbrev Comes : List ℕ → List ℕ → ℕ → Next → Type 0
Comes bytes rest number (Read count devices commands behind) = Turn bytes rest behind devices commands (number + (count + 1))
Comes bytes rest number (BadLine place) = IsBadAt bytes (number + 1 + place)
Comes bytes rest number CutShort = IsBadAt bytes (length (lines_of bytes) + 1)

module _ (bytes : List ℕ) (b : ℕ) (bs : List ℕ) (devices : List DeviceDecl) (commands : List Command) (number : ℕ) (stands : Stands bytes (b ∷ bs) devices commands number) where
  came_blank : (behind : List ℕ) → FirstLine (b ∷ bs) [] behind → Turn bytes (b ∷ bs) behind devices commands (number + 1)
  came_blank behind first = record {
    stands = record {
      front = stands.front ++ [] ∷ [];
      lines = stands.lines ∙ (ap (λ it. (first_line ∷ stands.front) ++ it) first.lines ∙ sym (append_assoc (first_line ∷ stands.front) ([] ∷ []) (lines_of behind)));
      count = omega (arith, stands.count, length-append stands.front (blank_line ∷ []));
      leads = leads-blank stands.front (items_in devices commands) stands.leads;
      few = stands.few;
      names = stands.names;
      ended = ⊎_elim (λ same. fed same) (λ ended. clash ended.0) stands.ended;
    };
    shorter = ends_shorter b bs [] behind first;
  }
    where
      clash : {A : Type 0} → b ∷ bs ≡ [] → A
      clash e = cc

      fed : is_whole_behind true bytes ≡ is_whole_behind true (b ∷ bs) → (is_whole_behind true bytes ≡ is_whole_behind true behind) ⊎ ((behind ≡ []) × (last_text [] (items_in devices commands) ≡ []))
      fed same = ⊎_elim (λ is. inl (same ∙ ap (is_whole_behind true) is)) (λ last. clash last.0) first.ends

  module _ (c : ℕ) (cs behind : List ℕ) (first : FirstLine (b ∷ bs) (c ∷ cs) behind) where
    lines_here : lines_of bytes ≡ (first_line ∷ stands.front) ++ (c ∷ cs) ∷ lines_of behind
    lines_here = stands.lines ∙ ap (λ it. (first_line ∷ stands.front) ++ it) first.lines

    goes_here : (other : List ℕ) (job : Job) → IsJob other job → (more : List Line) → lines_of other ≡ (first_line ∷ stands.front) ++ (c ∷ cs) ∷ more → Goes job (items_in devices commands) (c ∷ cs) more
    goes_here other job is more e = goes stands.front (items_in devices commands) stands.leads other job is c cs more e

    -- the line begins no job
    bad_here : ((other : List ℕ) (job : Job) → IsJob other job → (more : List Line) → Goes job (items_in devices commands) (c ∷ cs) more → ⊥) → IsBadAt bytes (number + 1 + 0)
    bad_here refuses =
        bad_line bytes (first_line ∷ stands.front) (c ∷ cs) (lines_of behind) (number + 1 + 0) lines_here (begins_here bytes (b ∷ bs) devices commands number stands) (omega (arith, stands.count))
        (λ other job is more e. refuses other job is more (goes_here other job is more e))

    unsaid : head_of (c ∷ cs) ≡ None → IsBadAt bytes (number + 1 + 0)
    unsaid none = bad_here (λ other job is more at. clash (sym none ∙ goes_says job (items_in devices commands) (c ∷ cs) more at))
      where
        clash : {head : Head} → ◌≡◌ {A = Option Head} None (Some head) → ⊥
        clash h = cc

    module _ (head : Head) (says : head_of (c ∷ cs) ≡ Some head) where
      unadmitted : is_admitted devices commands head ≡ false → IsBadAt bytes (number + 1 + 0)
      unadmitted refused =
          bad_here (λ other job is more at. clash (sym refused ∙ admitted_any other job is devices commands (c ∷ cs) more at head (same_head job (items_in devices commands) (c ∷ cs) more at head says)))
        where
          clash : ◌≡◌ {A = Bool} false true → ⊥
          clash h = cc

      -- how many lines an item has here
      size_here : (job : Job) (more : List Line) (at : Goes job (items_in devices commands) (c ∷ cs) more) → length (lines_of (item_text at.item)) ≡ text_size head
      size_here job more at =
          text_size-head at.item ∙ ap text_size (sym (same_head job (items_in devices commands) (c ∷ cs) more at head says))

      count_here : (job : Job) (more : List Line) (at : Goes job (items_in devices commands) (c ∷ cs) more) → length (item_rules at.item) ≡ rule_count head
      count_here job more at =
          rule_count-head at.item ∙ ap rule_count (sym (same_head job (items_in devices commands) (c ∷ cs) more at head says))

      module _ (admitted : is_admitted devices commands head ≡ true) where
        -- lines behind the line begin a job, where others make them those of an item
        begins_with : (lines : List Line) → AllLack 10 lines → length lines ≡ text_size head → (rules : List Rule) → AllByRecursion IsRule rules → length rules ≡ rule_count head
            → (seen more : List Line) → lines ++ map rule_line rules ≡ seen ++ more → BeginsJob ((first_line ∷ stands.front) ++ (c ∷ cs) ∷ seen)
        begins_with lines lines_lack size rules are many seen more e =
            let bytes_lack = subst (AllLack 10) lines_here (lines-lack bytes) in
            let front_lacks = AllLack-front 10 (first_line ∷ stands.front) ((c ∷ cs) ∷ lines_of behind) bytes_lack in
            let line_lacks = (AllLack-back 10 (first_line ∷ stands.front) ((c ∷ cs) ∷ lines_of behind) bytes_lack).0 in
            let all = begins_item stands.front devices commands stands.leads stands.few stands.names front_lacks (c ∷ cs) head (line_lacks, tt) says admitted lines lines_lack size rules are many in
            begins_front ((first_line ∷ stands.front) ++ (c ∷ cs) ∷ seen) more
            (subst BeginsJob (ap (λ it. (first_line ∷ stands.front) ++ (c ∷ cs) ∷ it) e ∙ sym (append_assoc (first_line ∷ stands.front) ((c ∷ cs) ∷ seen) more)) all)

        -- all lines begin a job, and the bytes are none
        short_line : BeginsJob ((first_line ∷ stands.front) ++ (c ∷ cs) ∷ lines_of behind) → ((job : Job) → IsJob bytes job → Goes job (items_in devices commands) (c ∷ cs) (lines_of behind) → ⊥) → IsBadAt bytes (length (lines_of bytes) + 1)
        short_line begins none = record {
          none = λ job is. none job is (goes_here bytes job is (lines_of behind) lines_here);
          ends = inr refl;
          first = λ earlier less. begins_take earlier (lines_of bytes) (subst BeginsJob (sym lines_here) begins);
        }

        -- the text is cut short
        short_text : text_cut (text_size head) behind ≡ None → IsBadAt bytes (length (lines_of bytes) + 1)
        short_text none = short_line begins refuses
          where
            missing : ℕ
            missing = text_size head - length (lines_of behind)

            blanks : List Line
            blanks = replicate missing blank_line

            rules : List Rule
            rules = replicate (rule_count head) any_rule

            size : length (lines_of behind ++ blanks) ≡ text_size head
            size = omega (arith, length-append (lines_of behind) blanks, length-replicate missing blank_line, (short behind (text_size head) none).few)

            begins : BeginsJob ((first_line ∷ stands.front) ++ (c ∷ cs) ∷ lines_of behind)
            begins =
                begins_with (lines_of behind ++ blanks) (AllLack-append 10 (lines_of behind) blanks (lines-lack behind) (blanks_lack missing)) size
                rules (all_any (rule_count head)) (length-replicate (rule_count head) any_rule)
                (lines_of behind) (blanks ++ map rule_line rules) (append_assoc (lines_of behind) blanks (map rule_line rules))

            not_whole : is_whole_behind true behind ≡ false → is_whole_behind true bytes ≡ false
            not_whole h =
                let rest : is_whole_behind true (b ∷ bs) ≡ false = ⊎_elim (λ is. ap (is_whole_behind true) is ∙ (is_whole-append true (c ∷ cs) behind ∙ h)) (λ last. last.2) first.ends in
                ⊎_elim (λ same. same ∙ rest) (λ ended. clash ended.0) stands.ended
              where
                clash : {A : Type 0} → b ∷ bs ≡ [] → A
                clash e = cc

            refuses : (job : Job) → IsJob bytes job → Goes job (items_in devices commands) (c ∷ cs) (lines_of behind) → ⊥
            refuses job is at =
                let items = items_in devices commands in
                let size = size_here job (lines_of behind) at in
                let parts = same_behind job items (c ∷ cs) (lines_of behind) at ∙ append_assoc (lines_of (item_text at.item)) (map rule_line (item_rules at.item)) at.rest in
                let tail = text_cut-short (lines_of (item_text at.item)) (map rule_line (item_rules at.item) ++ at.rest) behind (ap (λ n. text_cut n behind) size ∙ none) parts in
                let alone = AreItems-none at.others (subst (λ it. AreItems it at.others) (back_empty (map rule_line (item_rules at.item)) at.rest tail.0) at.behind) in
                let last = ap (last_text []) (at.all ∙ ap (λ it. items ++ at.item ∷ it) alone) ∙ last_text-push [] items at.item in
                ⊎_elim
                (λ whole. clash whole (not_whole tail.1))
                (λ bare. no_cut_of_nothing behind (ap (λ n. text_cut n behind) (sym (ap (λ it. length (lines_of it)) (sym last ∙ bare)) ∙ size) ∙ none))
                is.ended
              where
                clash : is_whole_behind true bytes ≡ true → is_whole_behind true bytes ≡ false → ⊥
                clash p q = let both_are = sym p ∙ q in cc

        module _ (text rest : List ℕ) (cut : Cut (text_size head) behind text rest) where
          behind_text : behind ≡ terminated cut.lines ++ rest
          behind_text = cut.joins ∙ ap (λ it. it ++ rest) cut.text_is

          lines_text : lines_of behind ≡ cut.lines ++ lines_of rest
          lines_text = ap lines_of behind_text ∙ lines_of-terminated cut.lines rest cut.lack

          -- there are too few rules
          short_rules : FewRules (rule_count head) rest → IsBadAt bytes (length (lines_of bytes) + 1)
          short_rules few = short_line begins refuses
            where
              missing : ℕ
              missing = rule_count head - length few.rules

              others : List Rule
              others = replicate missing any_rule

              all_lines : lines_of behind ≡ cut.lines ++ map rule_line few.rules
              all_lines = lines_text ∙ ap (λ it. cut.lines ++ it) few.lines

              count : length (few.rules ++ others) ≡ rule_count head
              count = omega (arith, length-append few.rules others, length-replicate missing any_rule, few.few)

              begins : BeginsJob ((first_line ∷ stands.front) ++ (c ∷ cs) ∷ lines_of behind)
              begins =
                  begins_with cut.lines cut.lack cut.count_is (few.rules ++ others) (all_append few.rules others few.are (all_any missing)) count
                  (lines_of behind) (map rule_line others)
                  (ap (λ it. cut.lines ++ it) (map-append rule_line few.rules others)
                  ∙ (sym (append_assoc cut.lines (map rule_line few.rules) (map rule_line others)) ∙ ap (λ it. it ++ map rule_line others) (sym all_lines)))

              refuses : (job : Job) → IsJob bytes job → Goes job (items_in devices commands) (c ∷ cs) (lines_of behind) → ⊥
              refuses job is at =
                  let same = ap length (sym all_lines ∙ same_behind job (items_in devices commands) (c ∷ cs) (lines_of behind) at) in
                  let heads = same_head job (items_in devices commands) (c ∷ cs) (lines_of behind) at head says in
                  let sizes = lines_with-length at.item ∙ ap (λ it. text_size it + rule_count it) (sym heads) in
                  omega (arith, same, sizes, cut.count_is, few.few, length-append cut.lines (map rule_line few.rules), length-map few.rules rule_line, length-append (lines_with at.item) at.rest)

          -- one of the lines of rules is none
          bad_rule : (place : ℕ) → BadRules (rule_count head) rest place → IsBadAt bytes (number + 1 + place)
          bad_rule place bad =
              bad_line bytes before bad.line bad.behind (number + 1 + place) spelled begins
              (omega (arith, stands.count, bad.place_is, none_of_text, cut.count_is, length-append (first_line ∷ stands.front) ((c ∷ cs) ∷ seen), length-append cut.lines (map rule_line bad.rules), length-map bad.rules rule_line))
              refuses
            where
              seen : List Line
              seen = cut.lines ++ map rule_line bad.rules

              before : List Line
              before = (first_line ∷ stands.front) ++ (c ∷ cs) ∷ seen

              none_of_text : text_size head ≡ 0
              none_of_text = one_kind head (omega (arith, bad.few))

              missing : ℕ
              missing = rule_count head - length bad.rules

              others : List Rule
              others = replicate missing any_rule

              count : length (bad.rules ++ others) ≡ rule_count head
              count = omega (arith, length-append bad.rules others, length-replicate missing any_rule, bad.few)

              spelled : lines_of bytes ≡ before ++ bad.line ∷ bad.behind
              spelled =
                  lines_here
                  ∙ (ap (λ it. (first_line ∷ stands.front) ++ (c ∷ cs) ∷ it) (lines_text ∙ (ap (λ it. cut.lines ++ it) bad.lines ∙ sym (append_assoc cut.lines (map rule_line bad.rules) (bad.line ∷ bad.behind))))
                  ∙ sym (append_assoc (first_line ∷ stands.front) ((c ∷ cs) ∷ seen) (bad.line ∷ bad.behind)))

              begins : BeginsJob before
              begins =
                  begins_with cut.lines cut.lack cut.count_is (bad.rules ++ others) (all_append bad.rules others bad.are (all_any missing)) count
                  seen (map rule_line others)
                  (ap (λ it. cut.lines ++ it) (map-append rule_line bad.rules others) ∙ sym (append_assoc cut.lines (map rule_line bad.rules) (map rule_line others)))

              refuses : (other : List ℕ) (job : Job) → IsJob other job → (more : List Line) → lines_of other ≡ before ++ bad.line ∷ more → ⊥
              refuses other job is more e =
                  let lines = e ∙ append_assoc (first_line ∷ stands.front) ((c ∷ cs) ∷ seen) (bad.line ∷ more) in
                  let at = goes_here other job is (seen ++ bad.line ∷ more) lines in
                  let parts =
                  sym (append_assoc cut.lines (map rule_line bad.rules) (bad.line ∷ more))
                  ∙ (same_behind job (items_in devices commands) (c ∷ cs) (seen ++ bad.line ∷ more) at
                  ∙ append_assoc (lines_of (item_text at.item)) (map rule_line (item_rules at.item)) at.rest) in
                  let sizes = cut.count_is ∙ sym (size_here job (seen ++ bad.line ∷ more) at) in
                  let fronts = equal_fronts cut.lines (lines_of (item_text at.item)) (map rule_line bad.rules ++ bad.line ∷ more) (map rule_line (item_rules at.item) ++ at.rest) sizes parts in
                  none_among (map rule_line bad.rules) bad.line more (item_rules at.item) at.rest (rules_are at.item at.is)
                  (omega (arith, bad.few, length-map bad.rules rule_line, count_here job (seen ++ bad.line ∷ more) at)) fronts.1 bad.none

          module _ (rules : List Rule) (left : List ℕ) (read : ReadRules (rule_count head) rest rules left) where
            turn_of : IsLineOf (c ∷ cs) head (terminated cut.lines) rules
            turn_of = line_of_text (c ∷ cs) head cut.lines rules says cut.lack cut.count_is read.are read.count_is

            turn_added : Added devices commands head (terminated cut.lines) rules
            turn_added = added devices commands head (terminated cut.lines) rules admitted stands.few stands.names

            turn_lines : item_lines (item_from head (terminated cut.lines) rules) ≡ (c ∷ cs) ∷ (cut.lines ++ map rule_line rules)
            turn_lines = item_lines_are (c ∷ cs) head (terminated cut.lines) rules cut.lines cut.lack refl turn_of

            turn_behind : lines_of behind ≡ (cut.lines ++ map rule_line rules) ++ lines_of left
            turn_behind = lines_text ∙ (ap (λ it. cut.lines ++ it) read.lines ∙ sym (append_assoc cut.lines (map rule_line rules) (lines_of left)))

            turn_last : terminated cut.lines ≡ [] → last_text [] (items_in (devices_with devices head) (commands_with commands head (terminated cut.lines) rules)) ≡ []
            turn_last none = ap (last_text []) turn_added.items ∙ (last_text-push [] (items_in devices commands) (item_from head (terminated cut.lines) rules) ∙ (turn_of.texts ∙ none))

            turn_ended : (is_whole_behind true bytes ≡ is_whole_behind true left) ⊎ ((left ≡ []) × (last_text [] (items_in (devices_with devices head) (commands_with commands head (terminated cut.lines) rules)) ≡ []))
            turn_ended = ⊎_elim (λ same. ⊎_elim (λ is. fed same is) (λ last. inr (bare last.1)) first.ends) (λ ended. clash ended.0) stands.ended
              where
                clash : {A : Type 0} → b ∷ bs ≡ [] → A
                clash e = cc

                no_text : text_size head ≡ 0 → terminated cut.lines ≡ []
                no_text none = ap terminated (no_length cut.lines (cut.count_is ∙ none))

                fed : is_whole_behind true bytes ≡ is_whole_behind true (b ∷ bs) → b ∷ bs ≡ (c ∷ cs) ++ 10 ∷ behind
                    → (is_whole_behind true bytes ≡ is_whole_behind true left) ⊎ ((left ≡ []) × (last_text [] (items_in (devices_with devices head) (commands_with commands head (terminated cut.lines) rules)) ≡ []))
                fed same is =
                    let so_far = same ∙ (ap (is_whole_behind true) is ∙ (is_whole-append true (c ∷ cs) behind ∙ (ap (is_whole_behind true) behind_text ∙ is_whole-terminated cut.lines rest))) in
                    ⊎_elim (λ on. inl (so_far ∙ on)) (λ last. inr (last.0, turn_last (no_text (one_kind head last.1)))) read.ends

                bare : behind ≡ [] → (left ≡ []) × (last_text [] (items_in (devices_with devices head) (commands_with commands head (terminated cut.lines) rules)) ≡ [])
                bare e =
                    let parts = append_empty (terminated cut.lines) rest (sym behind_text ∙ e) in
                    (empty_rest rest left parts.1 read.low, turn_last parts.0)

            turn_whole : Turn bytes (b ∷ bs) left (devices_with devices head) (commands_with commands head (terminated cut.lines) rules) (number + (lines_behind head + 1))
            turn_whole = record {
              stands = record {
                front = stands.front ++ (c ∷ cs) ∷ (cut.lines ++ map rule_line rules);
                lines = stands.lines ∙ (ap (λ it. (first_line ∷ stands.front) ++ it) (first.lines ∙ ap (λ it. (c ∷ cs) ∷ it) turn_behind) ∙ sym (append_assoc (first_line ∷ stands.front) ((c ∷ cs) ∷ (cut.lines ++ map rule_line rules)) (lines_of left)));
                count = omega (arith, stands.count, cut.count_is, read.count_is, lines_behind-sum head, length-append stands.front ((c ∷ cs) ∷ (cut.lines ++ map rule_line rules)), length-append cut.lines (map rule_line rules), length-map rules rule_line);
                leads = subst (Leads (stands.front ++ (c ∷ cs) ∷ (cut.lines ++ map rule_line rules))) (sym turn_added.items) (subst (λ it. Leads (stands.front ++ it) (items_in devices commands ++ item_from head (terminated cut.lines) rules ∷ [])) turn_lines (leads-item stands.front (items_in devices commands) stands.leads (item_from head (terminated cut.lines) rules) turn_of.item));
                few = turn_added.few;
                names = turn_added.names;
                ended = turn_ended;
              };
              shorter = omega (arith, ends_shorter b bs (c ∷ cs) behind first, ap length behind_text, length-append (terminated cut.lines) rest, read.low);
            }

            turn_read : Turn bytes (b ∷ bs) left (devices_with devices head) (commands_with commands head text rules) (number + (lines_behind head + 1))
            turn_read = subst (λ it. Turn bytes (b ∷ bs) left (devices_with devices head) (commands_with commands head it rules) (number + (lines_behind head + 1))) (sym cut.text_is) turn_whole

          comes_rules : (rules : Rules) → Told (rule_count head) rest rules → Comes bytes (b ∷ bs) number (next_rules devices commands head text rules)
          comes_rules (Are rules left) read = turn_read rules left read
          comes_rules (BadRule place) bad = bad_rule place bad
          comes_rules TooFew few = short_rules few

        comes_text : (o : Option (List ℕ × List ℕ)) → text_cut (text_size head) behind ≡ o → Comes bytes (b ∷ bs) number (next_text devices commands head o)
        comes_text None e = short_text e
        comes_text (Some cut) e =
            comes_rules cut.0 cut.1 (text_cut_gives (text_size head) behind cut.0 cut.1 e) (rules_cut (rule_count head) cut.1) (rules_cut_told (rule_count head) cut.1)

      comes_said : (test : Bool) → is_admitted devices commands head ≡ test → Comes bytes (b ∷ bs) number (cond test (next_text devices commands head (text_cut (text_size head) behind)) (BadLine 0))
      comes_said true t = comes_text t (text_cut (text_size head) behind) refl
      comes_said false t = unadmitted t

    comes_head : (o : Option Head) → head_of (c ∷ cs) ≡ o → Comes bytes (b ∷ bs) number (next_head devices commands behind o)
    comes_head None e = unsaid e
    comes_head (Some head) e = comes_said head e (is_admitted devices commands head) refl

  comes_in : (line : Line) (behind : List ℕ) → FirstLine (b ∷ bs) line behind → Comes bytes (b ∷ bs) number (next_in devices commands line behind)
  comes_in [] behind first = came_blank behind first
  comes_in (c ∷ cs) behind first = comes_head c cs behind first (head_of (c ∷ cs)) refl

  comes : Comes bytes (b ∷ bs) number (next_item (b ∷ bs) devices commands)
  unfolding next_item
  comes = comes_in (next_line (b ∷ bs)).0 (next_line (b ∷ bs)).1 (next_line-first b bs)

  -- what is read
  pub stands_more : (n : ℕ) (ds : List DeviceDecl) (cs : List Command) (rest : List ℕ) → next_item (b ∷ bs) devices commands ≡ Read n ds cs rest → Turn bytes (b ∷ bs) rest ds cs (number + (n + 1))
  stands_more n ds cs rest h = subst (Comes bytes (b ∷ bs) number) h comes

  -- what is refused at its line or at a line behind it
  pub stands_bad : (place : ℕ) → next_item (b ∷ bs) devices commands ≡ BadLine place → IsBadAt bytes (number + 1 + place)
  stands_bad place h = subst (Comes bytes (b ∷ bs) number) h comes

  -- what is cut short
  pub stands_short : next_item (b ∷ bs) devices commands ≡ CutShort → IsBadAt bytes (length (lines_of bytes) + 1)
  stands_short h = subst (Comes bytes (b ∷ bs) number) h comes

-- all is read
pub stands_whole : (bytes : List ℕ) (devices : List DeviceDecl) (commands : List Command) (number : ℕ) → Stands bytes [] devices commands number → IsJob bytes (record { devices = devices; commands = commands })
stands_whole bytes devices commands number stands = record {
  behind = stands.front;
  begins = stands.lines ∙ append-nil (first_line ∷ stands.front);
  items = subst (AreItems stands.front) (append-nil (items_in devices commands)) (subst (λ it. AreItems it (items_in devices commands ++ [])) (append-nil stands.front) (stands.leads.join [] [] refl));
  few = stands.few;
  names = stands.names;
  ended = ⊎_elim (λ same. inl same) (λ last. inr last.1) stands.ended;
}

-- the same of a rest that is not empty
module _ (bytes : List ℕ) (devices : List DeviceDecl) (commands : List Command) (number : ℕ) where
  pub turn : (rest : List ℕ) → Stands bytes rest devices commands number → (length rest == 0) ≡ false
      → (n : ℕ) (ds : List DeviceDecl) (cs : List Command) (behind : List ℕ) → next_item rest devices commands ≡ Read n ds cs behind → Turn bytes rest behind ds cs (number + (n + 1))
  turn [] stands some n ds cs behind h = cc
  turn (b ∷ bs) stands some n ds cs behind h = stands_more bytes b bs devices commands number stands n ds cs behind h

  pub bad : (rest : List ℕ) → Stands bytes rest devices commands number → (length rest == 0) ≡ false → (place : ℕ) → next_item rest devices commands ≡ BadLine place → IsBadAt bytes (number + 1 + place)
  bad [] stands some place h = cc
  bad (b ∷ bs) stands some place h = stands_bad bytes b bs devices commands number stands place h

  pub cut_short : (rest : List ℕ) → Stands bytes rest devices commands number → (length rest == 0) ≡ false → next_item rest devices commands ≡ CutShort → IsBadAt bytes (length (lines_of bytes) + 1)
  cut_short [] stands some h = cc
  cut_short (b ∷ bs) stands some h = stands_short bytes b bs devices commands number stands h

  pub all_read : (rest : List ℕ) → Stands bytes rest devices commands number → (length rest == 0) ≡ true → IsJob bytes (record { devices = devices; commands = commands })
  all_read [] stands none = stands_whole bytes devices commands number stands
  all_read (b ∷ bs) stands none = let empty = (Decides-eqb (length (b ∷ bs)) 0).0 none in absurd (omega arith)

  -- there is a line left
  pub more_lines : (rest : List ℕ) → Stands bytes rest devices commands number → (length rest == 0) ≡ false → number + 1 ≤ length bytes
  more_lines [] stands some = cc
  more_lines (b ∷ bs) stands some =
      omega (arith, stands.count, ap length stands.lines, length-append (first_line ∷ stands.front) (lines_of (b ∷ bs)), lines-length bytes, ap length (next_line-first b bs).lines)

-- a bad line is at most one behind the last
pub bad_low : (bytes : List ℕ) (number : ℕ) → IsBadAt bytes number → number ≤ length bytes + 1
bad_low bytes number bad =
    ⊎_elim (λ within. low within.0) (λ past. beyond past) bad.ends
  where
    low : number ≤ length (lines_of bytes) → number ≤ length bytes + 1
    low h = omega (arith, lines-length bytes)

    beyond : number ≡ length (lines_of bytes) + 1 → number ≤ length bytes + 1
    beyond h = omega (arith, lines-length bytes)

-- the number of lines read is at most that of bytes
pub stands_low : (bytes rest : List ℕ) (devices : List DeviceDecl) (commands : List Command) (number : ℕ) → Stands bytes rest devices commands number → number ≤ length bytes
stands_low bytes rest devices commands number stands =
    omega (arith, stands.count, ap length stands.lines, length-append (first_line ∷ stands.front) (lines_of rest), lines-length bytes)

empty_job : IsJob (terminated (first_line ∷ [])) (job_with [] [])
unfolding IsDistinct
empty_job = whole_job [] [] [] tt leads-nothing (omega arith) tt

begins_nothing : BeginsJob []
begins_nothing = record { bytes = terminated (first_line ∷ []); job = job_with [] []; is = empty_job; behind = lines_of (terminated (first_line ∷ [])); begins = refl }

no_lines_no_job : (job : Job) → IsJob [] job → ⊥
no_lines_no_job job is = let clash = is.begins in cc

earlier_than_first : (lines : List Line) (earlier : ℕ) → earlier < 1 → BeginsJob (take earlier lines)
earlier_than_first lines zero less = begins_nothing
earlier_than_first lines (suc n) less = absurd (omega arith)

pub first_bad : (bytes : List ℕ) → bytes_eq (next_line bytes).0 first_line ≡ false → IsBadAt bytes 1
first_bad [] other = record { none = no_lines_no_job; ends = inr refl; first = earlier_than_first [] }
first_bad (b ∷ bs) other =
    let line = (next_line (b ∷ bs)).0 in
    let first = next_line-first b bs in
    record {
      none = λ job is. clash (is.begins) first.lines;
      ends = inl (omega (arith, ap length first.lines), λ begins. clash begins.is.begins (begins.begins ∙ ap (λ it. take 1 it ++ begins.behind) first.lines));
      first = earlier_than_first (lines_of (b ∷ bs));
    }
  where
    clash : {lines more others : List Line} → lines ≡ first_line ∷ more → lines ≡ (next_line (b ∷ bs)).0 ∷ others → ⊥
    clash {lines} {more} {others} p q =
        let parts = cons_parts first_line (next_line (b ∷ bs)).0 more others (sym p ∙ q) in
        let same = (bytes_eq-Decides (next_line (b ∷ bs)).0 first_line).1 (sym parts.0) in
        cc

first_good_in : (b : ℕ) (bs : List ℕ) (line : Line) (behind : List ℕ) → FirstLine (b ∷ bs) line behind → line ≡ first_line → Stands (b ∷ bs) behind [] [] 1
unfolding IsDistinct
first_good_in b bs line behind first same = record {
  front = [];
  lines = first.lines ∙ ap (λ it. it ∷ lines_of behind) same;
  count = refl;
  leads = leads-nothing;
  few = omega arith;
  names = tt;
  ended = ⊎_elim (λ is. inl (ap (is_whole_behind true) is ∙ is_whole-append true line behind)) (λ last. inr (last.1, refl)) first.ends;
}

pub first_good : (bytes : List ℕ) → bytes_eq (next_line bytes).0 first_line ≡ true → Stands bytes (next_line bytes).1 [] [] 1
first_good [] h = cc
first_good (b ∷ bs) h =
    first_good_in b bs (next_line (b ∷ bs)).0 (next_line (b ∷ bs)).1 (next_line-first b bs) ((bytes_eq-Decides (next_line (b ∷ bs)).0 first_line).0 h)

-- the devices and the commands of items
devices_in : List Item → List DeviceDecl
devices_in [] = []
devices_in (Declares device ∷ items) = device ∷ devices_in items
devices_in (Commands command ∷ items) = devices_in items

commands_in : List Item → List Command
commands_in [] = []
commands_in (Declares device ∷ items) = commands_in items
commands_in (Commands command ∷ items) = command ∷ commands_in items

devices_in-items : (devices : List DeviceDecl) (commands : List Command) → devices_in (items_in devices commands) ≡ devices
unfolding devices_in
devices_in-items [] [] = refl
devices_in-items [] (command ∷ commands) = devices_in-items [] commands
devices_in-items (device ∷ devices) commands = ap (λ it. device ∷ it) (devices_in-items devices commands)

commands_in-items : (devices : List DeviceDecl) (commands : List Command) → commands_in (items_in devices commands) ≡ commands
unfolding commands_in
commands_in-items [] [] = refl
commands_in-items [] (command ∷ commands) = ap (λ it. command ∷ it) (commands_in-items [] commands)
commands_in-items (device ∷ devices) commands = commands_in-items devices commands

pub one_job : BytesHaveOneJob
one_job bytes a b p q =
    let behind = (cons_parts first_line first_line p.behind q.behind (sym p.begins ∙ q.begins)).1 in
    let items = AreItems-one (items_of a) (items_of b) q.behind (subst (λ it. AreItems it (items_of a)) behind p.items) q.items in
    let devices : a.devices ≡ b.devices = sym (devices_in-items a.devices a.commands) ∙ (ap devices_in items ∙ devices_in-items b.devices b.commands) in
    let commands : a.commands ≡ b.commands = sym (commands_in-items a.devices a.commands) ∙ (ap commands_in items ∙ commands_in-items b.devices b.commands) in
    λ i. record { devices = devices i; commands = commands i }

not_later : (bytes : List ℕ) (m n : ℕ) → IsBadAt bytes m → IsBadAt bytes n → m < n → ⊥
not_later bytes m n a b less =
    ⊎_elim (λ cut. cut.1 (b.first m less)) (λ past. ⊎_elim (λ cut. beyond past cut.0) (λ other. same past other) b.ends) a.ends
  where
    beyond : m ≡ length (lines_of bytes) + 1 → n ≤ length (lines_of bytes) → ⊥
    beyond p q = omega arith

    same : m ≡ length (lines_of bytes) + 1 → n ≡ length (lines_of bytes) + 1 → ⊥
    same p q = omega arith

pub one_bad_line : BytesHaveOneBadLine
one_bad_line bytes m n a b =
    ⊎_elim (λ less. absurd (not_later bytes m n a b less)) (λ rest. ⊎_elim (λ more. absurd (not_later bytes n m b a more)) (λ back. equal rest back) (cases_lt n m)) (cases_lt m n)
  where
    equal : n ≤ m → m ≤ n → m ≡ n
    equal p q = omega arith
