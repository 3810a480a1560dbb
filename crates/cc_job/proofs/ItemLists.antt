-- Lines are those of at most one list of items, and items are read one after another.
use Rattle.std.proofs.Common.{◌≡◌, ℕ, ◌+◌, List, [], ◌∷◌, ◌++◌, length, map, Some, refl, sym, ap, ◌∙◌, subst, arith}
use Rattle.std.specs.Prelude.{unwrap_or}
use Rattle.std.specs.List.{AllByRecursion}
use Rattle.std.proofs.lemmas.List.{append_assoc, length-append, length-map}
use Rattle.cc_words.specs.Words.{joined}
use Rattle.cc_words.specs.Lines.{Line, lines_of, AreWholeLines}
use Rattle.cc_job.specs.Jobs.{Item, Declares, Commands, item_words, item_text, item_rules, item_lines, rule_line, IsRule, IsCommand, IsItem, skipped, AreItems}
use Rattle.cc_job.specs.declared.job.Command.TheVariants.{Put, Drop, Check, Sig, Derive, Run, Tasks, Verify, Policy, Audit, Guard, Explain, Replay}
use Rattle.cc_job.specs.Reading.{head_of, text_size, rule_count}
use Rattle.cc_words.proofs.LineLists.{terminated, terminated-lines_of, cons_parts}
use Rattle.cc_job.proofs.HeadLaws.{item_from, head_for, item_from-head, text_size-head, rule_count-head, head_of-item}
use Rattle.cc_job.proofs.RuleLaws.{one_list}

command_whole : (command : _) → IsCommand command → AreWholeLines (item_text (Commands command))
command_whole (Put name text) is = is.1
command_whole (Drop name) is = refl
command_whole Check is = refl
command_whole (Sig name) is = refl
command_whole (Derive owner definition) is = refl
command_whole (Run owner definition fuel) is = refl
command_whole (Tasks fuel schedule entries) is = refl
command_whole (Verify text) is = is.0
command_whole (Policy rules) is = refl
command_whole (Audit owner definition) is = refl
command_whole (Guard owner definition fuel) is = refl
command_whole (Explain owner definition) is = refl
command_whole (Replay owner definition fuel text) is = is.2

-- the text behind an item's line is whole lines
pub text_whole : (item : Item) → IsItem item → AreWholeLines (item_text item)
text_whole (Declares device) is = refl
text_whole (Commands command) is = command_whole command is

command_ruled : (command : _) → IsCommand command → AllByRecursion IsRule (item_rules (Commands command))
command_ruled (Put name text) is = tt
command_ruled (Drop name) is = tt
command_ruled Check is = tt
command_ruled (Sig name) is = tt
command_ruled (Derive owner definition) is = tt
command_ruled (Run owner definition fuel) is = tt
command_ruled (Tasks fuel schedule entries) is = tt
command_ruled (Verify text) is = tt
command_ruled (Policy rules) is = is.0
command_ruled (Audit owner definition) is = tt
command_ruled (Guard owner definition fuel) is = tt
command_ruled (Explain owner definition) is = tt
command_ruled (Replay owner definition fuel text) is = tt

-- and the rules are rules
pub rules_are : (item : Item) → IsItem item → AllByRecursion IsRule (item_rules item)
rules_are (Declares device) is = tt
rules_are (Commands command) is = command_ruled command is

-- the lines behind an item's line
abbrev pub lines_with : Item → List Line
lines_with item = lines_of (item_text item) ++ map rule_line (item_rules item)

-- are as many as the line says
pub lines_with-length : (item : Item) → length (lines_with item) ≡ text_size (head_for item) + rule_count (head_for item)
lines_with-length item =
    omega (arith, length-append (lines_of (item_text item)) (map rule_line (item_rules item)), text_size-head item, rule_count-head item, length-map (item_rules item) rule_line)

pub equal_fronts : {A : Type 0} (xs ys more others : List A) → length xs ≡ length ys → xs ++ more ≡ ys ++ others → (xs ≡ ys) × (more ≡ others)
equal_fronts [] [] more others n e = (refl, e)
equal_fronts [] (y ∷ ys) more others n e = absurd (omega arith)
equal_fronts (x ∷ xs) [] more others n e = absurd (omega arith)
equal_fronts (x ∷ xs) (y ∷ ys) more others n e =
    let parts = cons_parts x y (xs ++ more) (ys ++ others) e in
    let rest = equal_fronts xs ys more others (omega arith) parts.1 in
    (ap (λ it. it ∷ xs) parts.0 ∙ ap (λ it. y ∷ it) rest.0, rest.1)

same_head : (item other : Item) → IsItem item → IsItem other → joined 32 (item_words item) ≡ joined 32 (item_words other) → head_for item ≡ head_for other
same_head item other is are e = unwrap (sym (head_of-item item is) ∙ (ap head_of e ∙ head_of-item other are))
  where
    unwrap : Some (head_for item) ≡ Some (head_for other) → head_for item ≡ head_for other
    unwrap h = ap (λ o. unwrap_or o (head_for item)) h

-- the first item of lines is one
pub one_item : (item other : Item) (rest more : List Line) → IsItem item → IsItem other → item_lines item ++ rest ≡ item_lines other ++ more → (item ≡ other) × (rest ≡ more)
one_item item other rest more is are e =
    let parts = cons_parts (joined 32 (item_words item)) (joined 32 (item_words other)) (lines_with item ++ rest) (lines_with other ++ more) e in
    let heads = same_head item other is are parts.0 in
    let sizes = text_size-head item ∙ (ap text_size heads ∙ sym (text_size-head other)) in
    let lengths = lines_with-length item ∙ (ap (λ head. text_size head + rule_count head) heads ∙ sym (lines_with-length other)) in
    let fronts = equal_fronts (lines_with item) (lines_with other) rest more lengths parts.1 in
    let behind = equal_fronts (lines_of (item_text item)) (lines_of (item_text other)) (map rule_line (item_rules item)) (map rule_line (item_rules other)) sizes fronts.0 in
    let texts = sym (terminated-lines_of (item_text item) (text_whole item is)) ∙ (ap terminated behind.0 ∙ terminated-lines_of (item_text other) (text_whole other are)) in
    let rules = one_list (item_rules item) (item_rules other) (rules_are item is) (rules_are other are) behind.1 in (
      sym (item_from-head item)
          ∙ (ap (λ head. item_from head (item_text item) (item_rules item)) heads
          ∙ (ap (λ text. item_from (head_for other) text (item_rules item)) texts
          ∙ (ap (λ list. item_from (head_for other) (item_text other) list) rules ∙ item_from-head other))),
      fronts.1,
    )

-- the line of an item is not empty
command_begins : (command : _) → (c : ℕ) × (cs : List ℕ) × (joined 32 (item_words (Commands command)) ≡ c ∷ cs)
command_begins (Put name text) = (112, _, refl)
command_begins (Drop name) = (100, _, refl)
command_begins Check = (99, _, refl)
command_begins (Sig name) = (115, _, refl)
command_begins (Derive owner definition) = (100, _, refl)
command_begins (Run owner definition fuel) = (114, _, refl)
command_begins (Tasks fuel schedule entries) = (116, _, refl)
command_begins (Verify text) = (118, _, refl)
command_begins (Policy rules) = (112, _, refl)
command_begins (Audit owner definition) = (97, _, refl)
command_begins (Guard owner definition fuel) = (103, _, refl)
command_begins (Explain owner definition) = (101, _, refl)
command_begins (Replay owner definition fuel text) = (114, _, refl)

item_begins : (item : Item) → (c : ℕ) × (cs : List ℕ) × (joined 32 (item_words item) ≡ c ∷ cs)
item_begins (Declares device) = (100, _, refl)
item_begins (Commands command) = command_begins command

skipped-line : (line : Line) (lines : List Line) (c : ℕ) (cs : List ℕ) → line ≡ c ∷ cs → skipped (line ∷ lines) ≡ line ∷ lines
skipped-line line lines c cs e = ap (λ it. skipped (it ∷ lines)) e ∙ ap (λ it. it ∷ lines) (sym e)

-- no line of an item is skipped
skipped-item : (item : Item) (rest : List Line) → skipped (item_lines item ++ rest) ≡ item_lines item ++ rest
skipped-item item rest =
    let begins = item_begins item in
    skipped-line (joined 32 (item_words item)) (lines_with item ++ rest) begins.0 begins.1 begins.2

-- no items are those of no lines, and no lines those of no items
pub AreItems-none : (items : List Item) → AreItems [] items → items ≡ []
AreItems-none [] are = refl
AreItems-none (item ∷ items) are = let clash = are.2 in cc

AreItems-empty : (lines : List Line) (items : List Item) → skipped lines ≡ [] → AreItems lines items → items ≡ []
AreItems-empty lines [] none are = refl
AreItems-empty lines (item ∷ items) none are = let clash = sym none ∙ are.2 in cc

pub AreItems-one : (xs ys : List Item) (lines : List Line) → AreItems lines xs → AreItems lines ys → xs ≡ ys
AreItems-one [] ys lines are others = sym (AreItems-empty lines ys are others)
AreItems-one (x ∷ xs) [] lines are others = AreItems-empty lines (x ∷ xs) others are
AreItems-one (x ∷ xs) (y ∷ ys) lines are others =
    let first = one_item x y are.0 others.0 are.1 others.1 (sym are.2 ∙ others.2) in
    let rest = AreItems-one xs ys are.0 are.3 (subst (λ it. AreItems it ys) (sym first.1) others.3) in
    ap (λ it. it ∷ xs) first.0 ∙ ap (λ it. y ∷ it) rest

-- The lines in front are those of the items: whatever follows them has the items that follow.
pub record Leads (front : List Line) (items : List Item) : Type 0 where
  pub join : (lines : List Line) (more : List Item) → AreItems lines more → AreItems (front ++ lines) (items ++ more)
  pub split : (lines : List Line) (all : List Item) → AreItems (front ++ lines) all → (more : List Item) × (all ≡ items ++ more) × AreItems lines more

pub leads-nothing : Leads [] []
leads-nothing = record {
  join = λ lines more are. are;
  split = λ lines all are. (all, refl, are);
}

blank : (lines : List Line) (items : List Item) → AreItems lines items → AreItems ([] ∷ lines) items
blank lines [] are = are
blank lines (item ∷ items) are = are

unblank : (lines : List Line) (items : List Item) → AreItems ([] ∷ lines) items → AreItems lines items
unblank lines [] are = are
unblank lines (item ∷ items) are = are

module _ (front : List Line) (items : List Item) (leads : Leads front items) where
  pub leads-blank : Leads (front ++ [] ∷ []) items
  leads-blank = record {
    join = λ lines more are. subst (λ it. AreItems it (items ++ more)) (sym (append_assoc front ([] ∷ []) lines)) (leads.join ([] ∷ lines) more (blank lines more are));
    split = λ lines all are.
        (let found = leads.split ([] ∷ lines) all (subst (λ it. AreItems it all) (append_assoc front ([] ∷ []) lines) are) in
        (found.0, found.1, unblank lines found.0 found.2));
  }

  split_item : (item : Item) → IsItem item → (lines : List Line) (all more : List Item) → all ≡ items ++ more → AreItems (item_lines item ++ lines) more → (others : List Item) × (all ≡ (items ++ item ∷ []) ++ others) × AreItems lines others
  split_item item is lines all [] e are = let clash = sym (skipped-item item lines) ∙ are in cc
  split_item item is lines all (other ∷ more) e are =
      let same = one_item other item are.0 lines are.1 is (sym are.2 ∙ skipped-item item lines) in
      (more, e ∙ (ap (λ it. items ++ it ∷ more) same.0 ∙ sym (append_assoc items (item ∷ []) more)), subst (λ it. AreItems it more) same.1 are.3)

  pub leads-item : (item : Item) → IsItem item → Leads (front ++ item_lines item) (items ++ item ∷ [])
  leads-item item is = record {
    join = λ lines more are.
        subst (λ it. AreItems it ((items ++ item ∷ []) ++ more)) (sym (append_assoc front (item_lines item) lines))
        (subst (AreItems (front ++ (item_lines item ++ lines))) (sym (append_assoc items (item ∷ []) more))
        (leads.join (item_lines item ++ lines) (item ∷ more) (lines, is, skipped-item item lines, are)));
    split = λ lines all are.
        (let found = leads.split (item_lines item ++ lines) all (subst (λ it. AreItems it all) (append_assoc front (item_lines item) lines) are) in
        split_item item is lines all found.0 found.1 found.2);
  }
