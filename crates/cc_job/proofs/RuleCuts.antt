-- What lines of rules are.
use Rattle.std.proofs.Common.{◌≡◌, ℕ, zero, suc, ◌+◌, ◌-◌, ◌<◌, ◌≤◌, true, false, ◌==◌, List, [], ◌∷◌, ◌++◌, length, map, Option, Some, None, refl, sym, ap, ◌∙◌, inl, inr, ◌⊎◌, ⊎_elim, arith}
use Rattle.std.specs.List.{AllByRecursion}
use Rattle.std.proofs.lemmas.List.{length-append}
use Rattle.std.proofs.lemmas.Bool.Decides.{Decides-eqb}
use Rattle.cc_policy.specs.declared.policy.Rule.{Rule}
use Rattle.cc_words.specs.Lines.{Line, lines_of, is_whole_behind, next_line}
use Rattle.cc_job.specs.Jobs.{rule_line, IsRule}
use Rattle.cc_job.specs.Reading.{rule_of, Rules, Are, BadRule, TooFew, before_rules, rules_cut}
use Rattle.cc_words.proofs.LineLists.{is_whole-append, FirstLine, next_line-first}
use Rattle.cc_job.proofs.RuleLaws.{rule_of_gives}

-- the lines are those of the rules, and the last may stand without its line feed
pub record ReadRules (count : ℕ) (bytes : List ℕ) (rules : List Rule) (rest : List ℕ) : Type 0 where
  pub are : AllByRecursion IsRule rules
  pub count_is : length rules ≡ count
  pub lines : lines_of bytes ≡ map rule_line rules ++ lines_of rest
  pub ends : (is_whole_behind true bytes ≡ is_whole_behind true rest) ⊎ ((rest ≡ []) × (1 ≤ count))
  pub low : length rest ≤ length bytes

-- one of the lines is no rule
pub record BadRules (count : ℕ) (bytes : List ℕ) (place : ℕ) : Type 0 where
  pub rules : List Rule
  pub are : AllByRecursion IsRule rules
  pub place_is : place ≡ length rules + 1
  pub few : length rules < count
  pub line : Line
  pub none : rule_of line ≡ None
  pub behind : List Line
  pub lines : lines_of bytes ≡ map rule_line rules ++ line ∷ behind

-- there are too few lines, and each is a rule
pub record FewRules (count : ℕ) (bytes : List ℕ) : Type 0 where
  pub rules : List Rule
  pub are : AllByRecursion IsRule rules
  pub few : length rules < count
  pub lines : lines_of bytes ≡ map rule_line rules

abbrev pub Told : ℕ → List ℕ → Rules → Type 0
Told count bytes (Are rules rest) = ReadRules count bytes rules rest
Told count bytes (BadRule place) = BadRules count bytes place
Told count bytes TooFew = FewRules count bytes

line_longer : (b : ℕ) (bs : List ℕ) (line : Line) (behind : List ℕ) → FirstLine (b ∷ bs) line behind → length behind ≤ length (b ∷ bs)
line_longer b bs line behind first =
    ⊎_elim (λ is. fed (ap length is)) (λ last. bare (ap length last.1)) first.ends
  where
    fed : length (b ∷ bs) ≡ length (line ++ 10 ∷ behind) → length behind ≤ length (b ∷ bs)
    fed e = omega (arith, length-append line (10 ∷ behind))

    bare : length behind ≡ length {A = ℕ} [] → length behind ≤ length (b ∷ bs)
    bare e = omega arith

pub empty_rest : (behind rest : List ℕ) → behind ≡ [] → length rest ≤ length behind → rest ≡ []
empty_rest behind [] none low = refl
empty_rest behind (r ∷ rest) none low = let size = ap length none in absurd (omega arith)

-- the same with a line before them
told_before : (count b : ℕ) (bs : List ℕ) (line : Line) (behind : List ℕ) → FirstLine (b ∷ bs) line behind → (o : Option Rule) → rule_of line ≡ o
    → (later : Rules) → Told count behind later → Told (suc count) (b ∷ bs) (before_rules o later)
told_before count b bs line behind first None says later told = record {
  rules = [];
  are = tt;
  place_is = refl;
  few = omega arith;
  line = line;
  none = says;
  behind = lines_of behind;
  lines = first.lines;
}
told_before count b bs line behind first (Some rule) says (Are rules rest) told =
    let is = rule_of_gives line rule says in
    record {
      are = (is.0, told.are);
      count_is = omega (arith, told.count_is);
      lines = first.lines ∙ (ap (λ it. it ∷ lines_of behind) is.1 ∙ ap (λ it. rule_line rule ∷ it) told.lines);
      ends = ⊎_elim
          (λ fed. ⊎_elim (λ same. inl (ap (is_whole_behind true) fed ∙ (is_whole-append true line behind ∙ same))) (λ last. inr (last.0, omega arith)) told.ends)
          (λ last. inr (empty_rest behind rest last.1 told.low, omega arith)) first.ends;
      low = omega (arith, told.low, line_longer b bs line behind first);
    }
told_before count b bs line behind first (Some rule) says (BadRule place) told =
    let is = rule_of_gives line rule says in
    record {
      rules = rule ∷ told.rules;
      are = (is.0, told.are);
      place_is = omega (arith, told.place_is);
      few = omega (arith, told.few);
      line = told.line;
      none = told.none;
      behind = told.behind;
      lines = first.lines ∙ (ap (λ it. it ∷ lines_of behind) is.1 ∙ ap (λ it. rule_line rule ∷ it) told.lines);
    }
told_before count b bs line behind first (Some rule) says TooFew told =
    let is = rule_of_gives line rule says in
    record {
      rules = rule ∷ told.rules;
      are = (is.0, told.are);
      few = omega (arith, told.few);
      lines = first.lines ∙ (ap (λ it. it ∷ lines_of behind) is.1 ∙ ap (λ it. rule_line rule ∷ it) told.lines);
    }

-- what is read of lines of rules is so
pub rules_cut_told : (count : ℕ) (bytes : List ℕ) → Told count bytes (rules_cut count bytes)
rules_cut_told zero bytes = record { are = tt; count_is = refl; lines = refl; ends = inl refl; low = omega arith }
rules_cut_told (suc count) [] = record { rules = []; are = tt; few = omega arith; lines = refl }
rules_cut_told (suc count) (b ∷ bs) =
    let cut = next_line (b ∷ bs) in
    told_before count b bs cut.0 cut.1 (next_line-first b bs) (rule_of cut.0) refl (rules_cut count cut.1) (rules_cut_told count cut.1)

-- the same with lines before them, which are these rules
abbrev pub behind_rules : List Rule → Rules → Rules
behind_rules [] later = later
behind_rules (rule ∷ rules) later = before_rules (Some rule) (behind_rules rules later)

pub behind_rules-push : (rules : List Rule) (rule : Rule) (later : Rules) → behind_rules (rules ++ rule ∷ []) later ≡ behind_rules rules (before_rules (Some rule) later)
behind_rules-push [] rule later = refl
behind_rules-push (first ∷ rules) rule later = ap (before_rules (Some first)) (behind_rules-push rules rule later)

pub behind_rules-Are : (rules : List Rule) (rest : List ℕ) → behind_rules rules (Are [] rest) ≡ Are rules rest
behind_rules-Are [] rest = refl
behind_rules-Are (first ∷ rules) rest = ap (before_rules (Some first)) (behind_rules-Are rules rest)

bad_after : (m n : ℕ) → m ≡ n → BadRule m ≡ BadRule n
bad_after m n e = ap BadRule e

pub behind_rules-BadRule : (rules : List Rule) → behind_rules rules (BadRule 1) ≡ BadRule (length rules + 1)
behind_rules-BadRule [] = refl
behind_rules-BadRule (first ∷ rules) =
    ap (before_rules (Some first)) (behind_rules-BadRule rules) ∙ bad_after (length rules + 1 + 1) (length (first ∷ rules) + 1) (omega arith)

pub behind_rules-TooFew : (rules : List Rule) → behind_rules rules TooFew ≡ TooFew
behind_rules-TooFew [] = refl
behind_rules-TooFew (first ∷ rules) = ap (before_rules (Some first)) (behind_rules-TooFew rules)

no_rest : (n : ℕ) (rest : List ℕ) → 0 < n → (length rest == 0) ≡ true → rules_cut n rest ≡ TooFew
no_rest zero rest some e = absurd (omega arith)
no_rest (suc n) [] some e = refl
no_rest (suc n) (b ∷ bs) some e = let none = (Decides-eqb (length (b ∷ bs)) 0).0 e in absurd (omega arith)

first_rule : (n : ℕ) (rest : List ℕ) → 0 < n → (length rest == 0) ≡ false → rules_cut n rest ≡ before_rules (rule_of (next_line rest).0) (rules_cut (n - 1) (next_line rest).1)
first_rule zero rest some e = absurd (omega arith)
first_rule (suc n) [] some e = cc
first_rule (suc n) (b ∷ bs) some e =
    let same : n ≡ suc n - 1 = omega arith in
    ap (λ it. before_rules (rule_of (next_line (b ∷ bs)).0) (rules_cut it (next_line (b ∷ bs)).1)) same

-- what was read of so many lines
pub record Reads (count : ℕ) (bytes : List ℕ) (n : ℕ) (rules : List Rule) (rest : List ℕ) : Type 0 where
  pub so_far : rules_cut count bytes ≡ behind_rules rules (rules_cut (count - n) rest)
  pub many : length rules ≡ n

pub reads_none : (count : ℕ) (bytes : List ℕ) (rules : List Rule) → rules ≡ [] → Reads count bytes 0 rules bytes
reads_none count bytes rules none =
    let same : count ≡ count - 0 = omega arith in
    record {
      so_far = ap (λ it. rules_cut it bytes) same ∙ ap (λ it. behind_rules it (rules_cut (count - 0) bytes)) (sym none);
      many = ap length none;
    }

module _ (count : ℕ) (bytes : List ℕ) (n : ℕ) (rules : List Rule) (rest : List ℕ) (reads : Reads count bytes n rules rest) where
  pub reads_few : n < count → (length rest == 0) ≡ true → rules_cut count bytes ≡ TooFew
  reads_few less none =
      reads.so_far ∙ (ap (behind_rules rules) (no_rest (count - n) rest (omega arith) none) ∙ behind_rules-TooFew rules)

  pub reads_bad : n < count → (length rest == 0) ≡ false → (line behind : List ℕ) → (line, behind) ≡ next_line rest → None ≡ rule_of line → rules_cut count bytes ≡ BadRule (n + 1)
  reads_bad less some line behind cut none =
      let first = first_rule (count - n) rest (omega arith) some in
      let bad = ap rule_of (ap (λ it. it.0) (sym cut)) ∙ sym none in
      reads.so_far
      ∙ (ap (behind_rules rules) (first ∙ ap (λ o. before_rules o (rules_cut (count - n - 1) (next_line rest).1)) bad)
      ∙ (behind_rules-BadRule rules ∙ ap (λ it. BadRule (it + 1)) reads.many))

  pub reads_more : n < count → (length rest == 0) ≡ false → (line behind : List ℕ) → (line, behind) ≡ next_line rest → (rule : Rule) → Some rule ≡ rule_of line
      → (more : List Rule) → more ≡ rules ++ rule ∷ [] → Reads count bytes (n + 1) more behind
  reads_more less some line behind cut rule says more pushed =
      let first = first_rule (count - n) rest (omega arith) some in
      let same = ap rule_of (ap (λ it. it.0) (sym cut)) ∙ sym says in
      let left : count - n - 1 ≡ count - (n + 1) = omega arith in
      record {
        so_far =
            reads.so_far
            ∙ (ap (behind_rules rules) (first ∙ (ap (λ o. before_rules o (rules_cut (count - n - 1) (next_line rest).1)) same
            ∙ (ap (λ it. before_rules (Some rule) (rules_cut it (next_line rest).1)) left ∙ ap (λ it. before_rules (Some rule) (rules_cut (count - (n + 1)) it)) (ap (λ it. it.1) (sym cut)))))
            ∙ (sym (behind_rules-push rules rule (rules_cut (count - (n + 1)) behind)) ∙ ap (λ it. behind_rules it (rules_cut (count - (n + 1)) behind)) (sym pushed)));
        many = omega (arith, ap length pushed, reads.many, length-append rules (rule ∷ []));
      }

  pub reads_all : count ≤ n → rules_cut count bytes ≡ Are rules rest
  reads_all past =
      let none : count - n ≡ 0 = omega arith in
      reads.so_far ∙ (ap (λ it. behind_rules rules (rules_cut it rest)) none ∙ behind_rules-Are rules rest)
