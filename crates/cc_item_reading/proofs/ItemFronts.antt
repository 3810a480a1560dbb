-- Lines with which items go on, and lines with which none does.
use Rattle.std.proofs.Common.{◌≡◌, inl, inr, ℕ, zero, suc, ◌+◌, ◌<◌, Bool, true, false, not, ◌&&◌, List, [], ◌∷◌, ◌++◌, length, map, replicate, Some, None, refl, sym, ap, subst, ◌∙◌, arith, append_assoc, append-nil, length-append}
use Rattle.std.specs.Prelude.{nat_lt}
use Rattle.std.specs.List.{AllByRecursion}
use Rattle.std.proofs.lemmas.List.{length-map, length-replicate}
use Rattle.std.proofs.lemmas.Bool.Decides.{nat_tests}
use Rattle.cc_base.specs.declared.device.DeviceDecl.{DeviceDecl}
use Rattle.cc_policy.specs.declared.policy.Rule.{Rule}
use Rattle.cc_job.specs.declared.job.Command.TheVariants.{Put, Drop, Check, Sig, Derive, Run, Tasks, Verify, Policy, Audit, Guard, Explain, Replay}
use Rattle.cc_job.specs.declared.head.Head.{Head}
use Rattle.cc_job.specs.declared.head.Head.TheVariants as heads
use Rattle.cc_job.specs.Jobs.{Item, Declares, Commands, IsRule, IsItem, item_words, item_text, item_rules, item_lines, rule_line, text}
use Rattle.cc_job.specs.Reading.{head_of, may_stand, admits, text_size, rule_count, rule_of, has_device}
use Rattle.cc_job.proofs.HeadLaws.{some_same, item_from, head_for, text_size-head, rule_count-head, no_length, IsLineOf, head_of-item}
use Rattle.cc_job.proofs.ItemLists.{rules_are}
use Rattle.cc_job.proofs.RuleLaws.{none_among, any_rule}
use Rattle.cc_job.proofs.Standing.{added, line_of_text, item_lines_are}
use Rattle.cc_job.proofs.JobLaws.{blank_line, blanks_lack, all_any, all_append, any_before}
use Rattle.cc_words.specs.Words.{joined}
use Rattle.cc_words.specs.Lines.{Line, lines_of}
use Rattle.cc_words.proofs.Splits.{AllLack}
use Rattle.cc_words.proofs.Steps.{both}
use Rattle.cc_words.proofs.LineLists.{terminated, AllLack-append, cons_parts}
use Rattle.cc_item_reading.specs.Sayings.{MaySay, GoesOn, IsOpen}
use Rattle.cc_item_reading.specs.ItemReading.{item_with, AreDeclared, IsFrontBehind}

terminated_is : (lines : List Line) → text lines ≡ terminated lines
terminated_is [] = refl
terminated_is (line ∷ lines) = ap (λ it. line ++ 10 ∷ it) (terminated_is lines)

item_with_is : (head : Head) (told : List ℕ) (rules : List Rule) → item_with head told rules ≡ item_from head told rules
item_with_is (heads.Device device) told rules = refl
item_with_is (heads.Put name count) told rules = refl
item_with_is (heads.Verify count) told rules = refl
item_with_is (heads.Policy count) told rules = refl
item_with_is (heads.Replay owner definition fuel count) told rules = refl
item_with_is (heads.Command command) told rules = refl

truth : (a b : Bool) → (not a && b) ≡ true → (a ≡ false) × (b ≡ true)
truth true b h = cc
truth false b h = (refl, h)

-- what may stand here may be said
may_say : (devices : List DeviceDecl) (begun : Bool) (head : Head) (told : List ℕ) (rules : List Rule) → AreDeclared devices
    → may_stand devices begun head ≡ true → IsItem (item_with head told rules) → MaySay devices begun (item_with head told rules)
unfolding admits
may_say devices begun (heads.Device device) told rules declared stands is =
    let all = both (not begun && nat_lt (length devices) 16) (not (has_device devices device)) stands in
    let early = truth begun (nat_lt (length devices) 16) all.0 in
    let admitted : admits devices [] device ≡ true = rw (early.1, all.1) refl in
    let more = added devices [] (heads.Device device) told rules admitted declared.0 declared.1 in
    (is, record { early = early.0; few = omega (arith, more.few, length-append devices (device ∷ [])); names = more.names })
may_say devices begun (heads.Put name count) told rules declared stands is = is
may_say devices begun (heads.Verify count) told rules declared stands is = is
may_say devices begun (heads.Policy count) told rules declared stands is = is
may_say devices begun (heads.Replay owner definition fuel count) told rules declared stands is = is
may_say devices begun (heads.Command command) told rules declared stands is = is

-- A line that may stand here, with the lines of its text and its rules, is an item that may be said.
pub record IsWhole (devices : List DeviceDecl) (begun : Bool) (line : Line) (head : Head) (lines : List Line) (rules : List Rule) : Type 0 where
  pub may : MaySay devices begun (item_with head (text lines) rules)
  pub lines_are : item_lines (item_with head (text lines) rules) ≡ line ∷ (lines ++ map rule_line rules)

pub whole_item : (devices : List DeviceDecl) (begun : Bool) (line : Line) (head : Head) (lines : List Line) (rules : List Rule)
    → AreDeclared devices → head_of line ≡ Some head → may_stand devices begun head ≡ true → AllLack 10 lines
    → length lines ≡ text_size head → AllByRecursion IsRule rules → length rules ≡ rule_count head
    → IsWhole devices begun line head lines rules
whole_item devices begun line head lines rules declared says stands lack size are many =
    let of : IsLineOf line head (terminated lines) rules = line_of_text line head lines rules says lack size are many in
    let own : item_with head (text lines) rules ≡ item_from head (terminated lines) rules =
    item_with_is head (text lines) rules ∙ ap (λ it. item_from head it rules) (terminated_is lines) in
    record {
      may = may_say devices begun head (text lines) rules declared stands (subst IsItem (sym own) of.item);
      lines_are = ap item_lines own ∙ item_lines_are line head (terminated lines) rules lines lack refl of;
    }

more_than : (n k : ℕ) → k < n → (m : ℕ) × (n ≡ k + suc m)
more_than zero k less = absurd (omega arith)
more_than (suc n) zero less = (n, omega arith)
more_than (suc n) (suc k) less =
    let deeper = more_than n k (omega arith) in (deeper.0, omega (arith, deeper.1))

-- an item goes on with fewer lines of its text
open_text : (devices : List DeviceDecl) (begun : Bool) (line : Line) (head : Head) (lines : List Line) → AreDeclared devices
    → head_of line ≡ Some head → may_stand devices begun head ≡ true → AllLack 10 lines → length lines < text_size head
    → IsOpen devices begun (line ∷ lines)
open_text devices begun line head lines declared says stands lack less =
    let more = more_than (text_size head) (length lines) less in
    let pads = replicate (suc more.0) blank_line in
    let rules = replicate (rule_count head) any_rule in
    let all = whole_item devices begun line head (lines ++ pads) rules declared says stands
    (AllLack-append 10 lines pads lack (blanks_lack (suc more.0)))
    (omega (arith, length-append lines pads, length-replicate (suc more.0) blank_line, more.1))
    (all_any (rule_count head)) (length-replicate (rule_count head) any_rule) in (
      item_with head (text (lines ++ pads)) rules,
      blank_line,
      replicate more.0 blank_line ++ map rule_line rules,
      all.may,
      all.lines_are ∙ ap (λ it. line ∷ it) (append_assoc lines pads (map rule_line rules)),
    )

map_append : (rules others : List Rule) → map rule_line (rules ++ others) ≡ map rule_line rules ++ map rule_line others
map_append [] others = refl
map_append (rule ∷ rules) others = ap (λ it. rule_line rule ∷ it) (map_append rules others)

-- and with fewer of its rules
open_rules : (devices : List DeviceDecl) (begun : Bool) (line : Line) (head : Head) (rules : List Rule) → AreDeclared devices
    → head_of line ≡ Some head → may_stand devices begun head ≡ true → AllByRecursion IsRule rules → text_size head ≡ 0
    → length rules < rule_count head → IsOpen devices begun (line ∷ map rule_line rules)
open_rules devices begun line head rules declared says stands are none less =
    let more = more_than (rule_count head) (length rules) less in
    let pads = replicate (suc more.0) any_rule in
    let all = whole_item devices begun line head [] (rules ++ pads) declared says stands tt (sym none)
    (all_append rules pads are (all_any (suc more.0)))
    (omega (arith, length-append rules pads, length-replicate (suc more.0) any_rule, more.1)) in (
      item_with head (text []) (rules ++ pads),
      rule_line any_rule,
      map rule_line (replicate more.0 any_rule),
      all.may,
      all.lines_are ∙ ap (λ it. line ∷ it) (map_append rules pads),
    )

pub open_front : (devices : List DeviceDecl) (begun : Bool) (line : Line) (head : Head) (front : List Line) → AreDeclared devices
    → head_of line ≡ Some head → may_stand devices begun head ≡ true → AllLack 10 front → IsFrontBehind head front
    → IsOpen devices begun (line ∷ front)
open_front devices begun line head front declared says stands lack (inl less) =
    open_text devices begun line head front declared says stands lack less
open_front devices begun line head front declared says stands lack (inr (rules, is, are, none, less)) =
    subst (λ it. IsOpen devices begun (line ∷ it)) (sym is) (open_rules devices begun line head rules declared says stands are none less)

pub is_item : (devices : List DeviceDecl) (begun : Bool) (item : Item) → MaySay devices begun item → IsItem item
is_item devices begun (Declares device) may = may.0
is_item devices begun (Commands command) may = may

-- what its line says
says_head : (devices : List DeviceDecl) (begun : Bool) (item : Item) (line : Line) (behind : List Line) → MaySay devices begun item
    → item_lines item ≡ line ∷ behind → head_of line ≡ Some (head_for item)
says_head devices begun item line behind may is =
    ap head_of (sym (cons_parts (joined 32 (item_words item)) line (lines_of (item_text item) ++ map rule_line (item_rules item)) behind is).0)
    ∙ head_of-item item (is_item devices begun item may)

-- no item goes on with a line that says nothing
pub none_says : (devices : List DeviceDecl) (begun : Bool) (line : Line) → head_of line ≡ None → GoesOn devices begun (line ∷ []) → ⊥
none_says devices begun line none (item, missing, may, is) =
    let told : Some (head_for item) ≡ None = sym (says_head devices begun item line missing may is) ∙ none in cc

-- what may be said may stand here
stands_may : (devices : List DeviceDecl) (begun : Bool) (item : Item) → MaySay devices begun item → may_stand devices begun (head_for item) ≡ true
stands_may devices begun (Declares device) (is, may) =
    let less : nat_lt (length devices) 16 ≡ true = room (length devices) may.few in
    rw (may.early, less, any_before device devices [] may.names) refl
  where
    room : (n : ℕ) → n < 16 → nat_lt n 16 ≡ true
    room n h = grind (arith, nat_tests)
stands_may devices begun (Commands (Put name told)) may = refl
stands_may devices begun (Commands (Drop name)) may = refl
stands_may devices begun (Commands Check) may = refl
stands_may devices begun (Commands (Sig name)) may = refl
stands_may devices begun (Commands (Derive owner definition)) may = refl
stands_may devices begun (Commands (Run owner definition fuel)) may = refl
stands_may devices begun (Commands (Tasks fuel schedule entries)) may = refl
stands_may devices begun (Commands (Verify told)) may = refl
stands_may devices begun (Commands (Policy rules)) may = refl
stands_may devices begun (Commands (Audit owner definition)) may = refl
stands_may devices begun (Commands (Guard owner definition fuel)) may = refl
stands_may devices begun (Commands (Explain owner definition)) may = refl
stands_may devices begun (Commands (Replay owner definition fuel told)) may = refl

-- no item goes on with a line that may not stand here
pub none_stands : (devices : List DeviceDecl) (begun : Bool) (line : Line) (head : Head) → head_of line ≡ Some head
    → may_stand devices begun head ≡ false → GoesOn devices begun (line ∷ []) → ⊥
none_stands devices begun line head says late (item, missing, may, is) =
    let same : head ≡ head_for item = some_same head (head_for item) (sym says ∙ says_head devices begun item line missing may is) in
    let clash : false ≡ true = sym late ∙ ap (may_stand devices begun) same ∙ stands_may devices begun item may in cc

-- none goes on with a line that is no rule where a rule must stand
pub none_rules : (devices : List DeviceDecl) (begun : Bool) (line : Line) (head : Head) (rules : List Rule) (bad : Line)
    → head_of line ≡ Some head → text_size head ≡ 0 → length rules < rule_count head → rule_of bad ≡ None
    → GoesOn devices begun (line ∷ (map rule_line rules ++ bad ∷ [])) → ⊥
none_rules devices begun line head rules bad says empty less none (item, missing, may, is) =
    let behind = (map rule_line rules ++ bad ∷ []) ++ missing in
    let same : head ≡ head_for item = some_same head (head_for item) (sym says ∙ says_head devices begun item line behind may is) in
    let own = is_item devices begun item may in
    let no_text : lines_of (item_text item) ≡ [] =
    no_length (lines_of (item_text item)) (text_size-head item ∙ ap text_size (sym same) ∙ empty) in
    let parts = (cons_parts (joined 32 (item_words item)) line (lines_of (item_text item) ++ map rule_line (item_rules item)) behind is).1 in
    let all : map rule_line rules ++ bad ∷ missing ≡ map rule_line (item_rules item) ++ [] =
    sym (append_assoc (map rule_line rules) (bad ∷ []) missing) ∙ sym parts
    ∙ ap (λ it. it ++ map rule_line (item_rules item)) no_text ∙ sym (append-nil (map rule_line (item_rules item))) in
    none_among (map rule_line rules) bad missing (item_rules item) [] (rules_are item own)
    (omega (arith, length-map rules rule_line, rule_count-head item, ap rule_count same, less)) all none
