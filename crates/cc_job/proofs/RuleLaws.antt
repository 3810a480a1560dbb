-- What a line of a rule says is the rule of which it is the line.
use Rattle.std.proofs.Common.{◌≡◌, ℕ, ◌<◌, Bool, true, false, List, [], ◌∷◌, ◌++◌, length, map, Option, Some, None, refl, sym, ap, ◌∙◌, subst, ⊎_elim, arith}
use Rattle.std.specs.Prelude.{codes, encode_utf8_all}
use Rattle.std.specs.Option.{option_map}
use Rattle.std.specs.List.{AllByRecursion}
use Rattle.std.specs.Str.{bytes_eq}
use Rattle.cc_base.specs.Names.{IsName}
use Rattle.cc_policy.specs.declared.policy.Rule.{Rule}
use Rattle.cc_words.specs.Words.{joined, ◌>>=◌, split_at, first_and_rest, two_of, name_of}
use Rattle.cc_words.specs.Lines.{Line}
use Rattle.cc_job.specs.Jobs.{permission_word, scope_word, rule_words, rule_line, IsScope, IsRule}
use Rattle.cc_job.specs.Reading.{permission_of, scope_of, rule_with, rule_of}
use Rattle.cc_words.proofs.Steps.{some_from_bind, Lacks, name_of_gives}
use Rattle.cc_words.proofs.NameBytes.{is_separator, name_of-encoded, Lacks-name}
use Rattle.cc_words.proofs.Splits.{AllLack, Lacks-test, Lacks-joined, split_at-joined, joined-split_at}
use Rattle.cc_words.proofs.LineLists.{cons_parts}
use Rattle.cc_words.proofs.Numbers.{two_of_gives}
use Rattle.cc_job.proofs.HeadLaws.{some_same, choice, is_word, first_gives}

permission_gives : (word : List ℕ) (allow : Bool) → permission_of word ≡ Some allow → word ≡ permission_word allow
unfolding permission_of
permission_gives word allow h =
    ⊎_elim (λ it. is_word word (codes "allow") it.0 ∙ ap permission_word (some_same true allow it.1)) (λ it.
    ⊎_elim (λ it. is_word word (codes "deny") it.0 ∙ ap permission_word (some_same false allow it.1)) (λ it. clash it.1)
    (choice (bytes_eq word (codes "deny")) (Some false) None allow it.1))
    (choice (bytes_eq word (codes "allow")) (Some true) _ allow h)
  where
    clash : {B : Type 0} → ◌≡◌ {A = Option Bool} None (Some allow) → B
    clash e = cc

scope_gives : (word : List ℕ) (scope : Option (List ℕ)) → scope_of word ≡ Some scope → IsScope scope × (word ≡ scope_word scope)
unfolding scope_of
scope_gives word scope h =
    ⊎_elim
    (λ it. subst (λ s. IsScope s × (word ≡ scope_word s)) (some_same None scope it.1) (tt, is_word word (codes "*") it.0))
    (λ it. named (name_of word) refl it.1)
    (choice (bytes_eq word (codes "*")) (Some None) _ scope h)
  where
    named : (o : Option (List ℕ)) → name_of word ≡ o → option_map Some o ≡ Some scope → IsScope scope × (word ≡ scope_word scope)
    named None e h = cc
    named (Some name) e h =
        let is = name_of_gives word name e in
        subst (λ s. IsScope s × (word ≡ scope_word s)) (some_same (Some name) scope h) (is.0, is.1)

-- the words are those of the rule
rule_gives : (word : List ℕ) (rest : List (List ℕ)) (rule : Rule) → rule_with word rest ≡ Some rule → IsRule rule × (word ∷ rest ≡ rule_words rule)
unfolding rule_with
rule_gives word rest rule h =
    let allow = some_from_bind (permission_of word) (λ allow. two_of rest >>= λ two. scope_of two.0 >>= λ owner. scope_of two.1 >>= λ device. Some (record { allow = allow; «module» = owner; device = device })) rule h in
    let two = some_from_bind (two_of rest) (λ two. scope_of two.0 >>= λ owner. scope_of two.1 >>= λ device. Some (record { allow = allow.0; «module» = owner; device = device })) rule allow.2 in
    let owner = some_from_bind (scope_of two.0.0) (λ owner. scope_of two.0.1 >>= λ device. Some (record { allow = allow.0; «module» = owner; device = device })) rule two.2 in
    let device = some_from_bind (scope_of two.0.1) (λ device. Some (record { allow = allow.0; «module» = owner.0; device = device })) rule owner.2 in
    let permission = permission_gives word allow.0 allow.1 in
    let words_are = two_of_gives rest two.0.0 two.0.1 two.1 in
    let owned = scope_gives two.0.0 owner.0 owner.1 in
    let used = scope_gives two.0.1 device.0 device.1 in
    subst (λ it. IsRule it × (word ∷ rest ≡ rule_words it)) (some_same (record { allow = allow.0; «module» = owner.0; device = device.0 }) rule device.2) (
      (owned.0, used.0),
      ap (λ w. w ∷ rest) permission ∙ ap (λ ws. permission_word allow.0 ∷ ws) (words_are ∙ (ap (λ w. w ∷ two.0.1 ∷ []) owned.1 ∙ ap (λ w. scope_word owner.0 ∷ w ∷ []) used.1)),
    )

-- what a line says is a rule, and the line is that of the rule
pub rule_of_gives : (line : Line) (rule : Rule) → rule_of line ≡ Some rule → IsRule rule × (line ≡ rule_line rule)
unfolding rule_of
rule_of_gives line rule h =
    let split = some_from_bind (first_and_rest (split_at 32 line)) (λ split. rule_with split.0 split.1) rule h in
    let is = rule_gives split.0.0 split.0.1 rule split.2 in
    (is.0, sym (joined-split_at 32 line) ∙ ap (joined 32) (first_gives (split_at 32 line) split.0 split.1 ∙ is.1))

-- a byte that separates words stands in no word of a rule
scope-lacks : (c : ℕ) (scope : Option (List ℕ)) → is_separator c ≡ true → Lacks c (codes "*") → IsScope scope → Lacks c (scope_word scope)
scope-lacks c None apart other is = other
scope-lacks c (Some name) apart other is = Lacks-name c name apart is

permission-lacks : (c : ℕ) (allow : Bool) → Lacks c (codes "allow") → Lacks c (codes "deny") → Lacks c (permission_word allow)
permission-lacks c true p q = p
permission-lacks c false p q = q

rule-lacks_space : (rule : Rule) → IsRule rule → AllLack 32 (rule_words rule)
rule-lacks_space rule is = (
  permission-lacks 32 rule.allow (Lacks-test 32 (codes "allow") refl) (Lacks-test 32 (codes "deny") refl),
  (scope-lacks 32 rule.«module» refl (Lacks-test 32 (codes "*") refl) is.0, (scope-lacks 32 rule.device refl (Lacks-test 32 (codes "*") refl) is.1, tt)),
)

rule-lacks_feed : (rule : Rule) → IsRule rule → AllLack 10 (rule_words rule)
rule-lacks_feed rule is = (
  permission-lacks 10 rule.allow (Lacks-test 10 (codes "allow") refl) (Lacks-test 10 (codes "deny") refl),
  (scope-lacks 10 rule.«module» refl (Lacks-test 10 (codes "*") refl) is.0, (scope-lacks 10 rule.device refl (Lacks-test 10 (codes "*") refl) is.1, tt)),
)

-- no line of a rule has a line feed
pub rules-lack : (rules : List Rule) → AllByRecursion IsRule rules → AllLack 10 (map rule_line rules)
rules-lack [] are = tt
rules-lack (rule ∷ rules) are =
    (Lacks-joined 32 10 (rule_words rule) refl (rule-lacks_feed rule are.0), rules-lack rules are.1)

permission_of-word : (allow : Bool) → permission_of (permission_word allow) ≡ Some allow
unfolding permission_of
permission_of-word true = refl
permission_of-word false = refl

not_any : (name : List ℕ) → IsName name → bytes_eq (encode_utf8_all name) (codes "*") ≡ false
not_any name named = at (bytes_eq (encode_utf8_all name) (codes "*")) refl
  where
    lacks : Lacks 42 (encode_utf8_all name)
    lacks = Lacks-name 42 name refl named

    clash : Lacks 42 (codes "*") → {B : Type 0} → B
    clash h {B} = let no : ◌≡◌ {A = Bool} true false = h.0 in cc

    at : (test : Bool) → bytes_eq (encode_utf8_all name) (codes "*") ≡ test → test ≡ false
    at true e = clash (subst (Lacks 42) (is_word (encode_utf8_all name) (codes "*") e) lacks)
    at false e = refl

scope_of-word : (scope : Option (List ℕ)) → IsScope scope → scope_of (scope_word scope) ≡ Some scope
unfolding scope_of
scope_of-word None is = refl
scope_of-word (Some name) is = rw (not_any name is, name_of-encoded name is) refl

-- the line of a rule says that rule
pub rule_of-line : (rule : Rule) → IsRule rule → rule_of (rule_line rule) ≡ Some rule
unfolding rule_of rule_with
rule_of-line rule is =
    let words = split_at-joined 32 (permission_word rule.allow) (scope_word rule.«module» ∷ scope_word rule.device ∷ []) (rule-lacks_space rule is) in
    rw (words, permission_of-word rule.allow, scope_of-word rule.«module» is.0, scope_of-word rule.device is.1) refl

-- lines are those of one list of rules
pub one_list : (rules others : List Rule) → AllByRecursion IsRule rules → AllByRecursion IsRule others → map rule_line rules ≡ map rule_line others → rules ≡ others
one_list [] [] are all e = refl
one_list [] (other ∷ others) are all e = cc
one_list (rule ∷ rules) [] are all e = cc
one_list (rule ∷ rules) (other ∷ others) are all e =
    let parts = cons_parts (rule_line rule) (rule_line other) (map rule_line rules) (map rule_line others) e in
    let first = some_same rule other (sym (rule_of-line rule are.0) ∙ (ap rule_of parts.0 ∙ rule_of-line other all.0)) in
    ap (λ it. it ∷ rules) first ∙ ap (λ it. other ∷ it) (one_list rules others are.1 all.1 parts.1)

-- a line among those of rules is the line of one
pub none_among : (front : List Line) (line : Line) (more : List Line) (rules : List Rule) (rest : List Line) → AllByRecursion IsRule rules → length front < length rules
    → front ++ line ∷ more ≡ map rule_line rules ++ rest → rule_of line ≡ None → ⊥
none_among front line more [] rest are less e none = absurd (omega arith)
none_among [] line more (rule ∷ rules) rest are less e none =
    let parts = cons_parts line (rule_line rule) more (map rule_line rules ++ rest) e in
    clash (sym none ∙ (ap rule_of parts.0 ∙ rule_of-line rule are.0))
  where
    clash : ◌≡◌ {A = Option Rule} None (Some rule) → ⊥
    clash h = cc
none_among (first ∷ front) line more (rule ∷ rules) rest are less e none =
    none_among front line more rules rest are.1 (omega arith) (cons_parts first (rule_line rule) (front ++ line ∷ more) (map rule_line rules ++ rest) e).1 none

-- a rule about everything
abbrev pub any_rule : Rule
any_rule = record { allow = true; «module» = None; device = None }
