-- A located log is the log where the local variables are dropped, and each step fills it with those of its scene.
use Rattle.std.proofs.Common.{◌≡◌, ℕ, suc, ◌+◌, ◌-◌, ◌<◌, Bool, true, false, cond, List, [], ◌∷◌, ◌++◌, map, length, replicate}
use Rattle.std.proofs.Common.{refl, sym, ap, ◌∙◌, append_assoc, arith, length-append}
use Rattle.cc_base.specs.declared.code.Code.{Code}
use Rattle.cc_base.specs.declared.place.Place.{Place}
use Rattle.cc_checking.specs.Outcomes as plain
use Rattle.cc_checking.specs.Outcomes.{Outcome, Placed}
use Rattle.cc_known.specs.Keeping as kept
use Rattle.cc_known.specs.Keeping.{is_needless}
use Rattle.cc_known.specs.Logs as logs
use Rattle.cc_reasons.specs.Causes.{Local, Cause, code_of, Located, located, Explained, NoAnswer, Refused, Found}
use Rattle.cc_reasons.specs.Causes.{outcome_of, asked_before, ◌>>=◌, because}
use Rattle.cc_reasons.specs.DefinitionReasons.{placed_of}
use Rattle.cc_reasoning.specs.LocatedLogs.{with_one, keeping, Stopped, Got, after}
use Rattle.cc_reasoning.specs.LocatedLogs.{beside}

-- what is asked, without the local variables
placed_of-append : (one other : List Located) → placed_of (one ++ other) ≡ placed_of one ++ placed_of other
placed_of-append [] other = refl
placed_of-append (first ∷ one) other = ap (λ l. first.placed ∷ l) (placed_of-append one other)

pub placed_of-located : (locals : List Local) (asked : List Placed) → placed_of (map (located locals) asked) ≡ asked
placed_of-located locals [] = refl
placed_of-located locals (first ∷ asked) = ap (λ l. first ∷ l) (placed_of-located locals asked)

placed_of-with_one : (list : List Located) (one : Located)
    → placed_of (with_one list one) ≡ kept.with_one (placed_of list) one.placed
placed_of-with_one list one = by_test (is_needless (placed_of list) one.placed.asked)
  where
    by_test : (b : Bool)
        → placed_of (cond b list (list ++ one ∷ [])) ≡ cond b (placed_of list) (placed_of list ++ one.placed ∷ [])
    by_test true = refl
    by_test false = placed_of-append list (one ∷ [])

-- whether something is kept depends on what is asked alone
pub placed_of-keeping : (list asked : List Located)
    → placed_of (keeping list asked) ≡ kept.keeping (placed_of list) (placed_of asked)
placed_of-keeping list [] = refl
placed_of-keeping list (first ∷ asked) =
    placed_of-keeping (with_one list first) asked
    ∙ ap (λ l. kept.keeping l (placed_of asked)) (placed_of-with_one list first)

-- what is kept of both is what is kept of the one and then of the other
pub keeping-append : (list one other : List Located) → keeping list (one ++ other) ≡ keeping (keeping list one) other
keeping-append list [] other = refl
keeping-append list (first ∷ one) other = keeping-append (with_one list first) one other

-- what a step adds
pub record Adds (locals : List Local) (list : List Located) (asked : List Placed) : Type 0 where
  pub more : List Placed
  pub grows : keeping list (map (located locals) asked) ≡ list ++ map (located locals) more

map-append : (locals : List Local) (one other : List Placed)
    → map (located locals) (one ++ other) ≡ map (located locals) one ++ map (located locals) other
map-append locals [] other = refl
map-append locals (first ∷ one) other = ap (λ l. located locals first ∷ l) (map-append locals one other)

append-nothing : {A : Type 0} (list : List A) → list ++ [] ≡ list
append-nothing [] = refl
append-nothing (first ∷ list) = ap (λ l. first ∷ l) (append-nothing list)

pub adds : (locals : List Local) (asked : List Placed) (list : List Located) → Adds locals list asked
adds locals [] list = record { more = []; grows = sym (append-nothing list) }
adds locals (first ∷ asked) list = by_test (adds locals asked) (is_needless (placed_of list) first.asked) refl
  where
    by_test : ((next : List Located) → Adds locals next asked) → (b : Bool)
        → is_needless (placed_of list) first.asked ≡ b → Adds locals list (first ∷ asked)
    by_test rest true is =
        let same : with_one list (located locals first) ≡ list =
        ap (λ t. cond t list (list ++ located locals first ∷ [])) is in
        let later = rest list in record {
          more = later.more;
          grows = ap (λ l. keeping l (map (located locals) asked)) same ∙ later.grows;
        }
    by_test rest false is =
        let same : with_one list (located locals first) ≡ list ++ located locals first ∷ [] =
        ap (λ t. cond t list (list ++ located locals first ∷ [])) is in
        let later = rest (list ++ located locals first ∷ []) in record {
          more = first ∷ later.more;
          grows = ap (λ l. keeping l (map (located locals) asked)) same ∙ later.grows
              ∙ append_assoc list (located locals first ∷ []) (map (located locals) later.more);
        }

-- the parts of what stands beside
pub placed_of-beside : (asked : List Placed) (locals : List (List Local)) → placed_of (beside asked locals) ≡ asked
placed_of-beside [] locals = refl
placed_of-beside (first ∷ asked) [] = ap (λ l. first ∷ l) (placed_of-beside asked [])
placed_of-beside (first ∷ asked) (one ∷ locals) = ap (λ l. first ∷ l) (placed_of-beside asked locals)

beside-replicate : (locals : List Local) (more : List Placed)
    → beside more (replicate (length more) locals) ≡ map (located locals) more
beside-replicate locals [] = refl
beside-replicate locals (first ∷ more) = ap (λ l. located locals first ∷ l) (beside-replicate locals more)

beside-append : (asked more : List Placed) (known : List (List Local)) (locals : List (List Local))
    → length known ≡ length asked → beside (asked ++ more) (known ++ locals) ≡ beside asked known ++ beside more locals
beside-append [] more [] locals even = refl
beside-append [] more (one ∷ known) locals even = absurd (omega (arith, even))
beside-append (first ∷ asked) more [] locals even = absurd (omega (arith, even))
beside-append (first ∷ asked) more (one ∷ known) locals even =
    ap (λ l. located one first ∷ l) (beside-append asked more known locals (omega (arith, even)))

-- each thing that a step asks is asked with these local variables
abbrev pub IsAskedAt : {A : Type 0} → List Local → Explained A → Type 0
IsAskedAt locals NoAnswer = Unit {0}
IsAskedAt locals (Refused cause at) = Unit {0}
IsAskedAt locals (Found value asked) = asked ≡ map (located locals) (placed_of asked)

asked_behind : {A : Type 0} (locals : List Local) (asked : List Located) (o : Explained A)
    → asked ≡ map (located locals) (placed_of asked) → IsAskedAt locals o → IsAskedAt locals (asked_before asked o)
asked_behind locals asked NoAnswer here there = tt
asked_behind locals asked (Refused cause at) here there = tt
asked_behind locals asked (Found value more) here there =
    ap (λ l. l ++ more) here ∙ ap (λ l. map (located locals) (placed_of asked) ++ l) there
    ∙ sym (map-append locals (placed_of asked) (placed_of more))
    ∙ ap (map (located locals)) (sym (placed_of-append asked more))

pub then_at : {A B : Type 0} (locals : List Local) (o : Explained A) (next : A → Explained B) → IsAskedAt locals o
    → ((a : A) → IsAskedAt locals (next a)) → IsAskedAt locals (◌>>=◌ o next)
unfolding ◌>>=◌
then_at locals NoAnswer next here there = tt
then_at locals (Refused cause at) next here there = tt
then_at locals (Found value asked) next here there = asked_behind locals asked (next value) here (there value)

pub because_at : {A : Type 0} (cause : Cause) (locals : List Local) (o : Outcome A)
    → IsAskedAt locals (because cause locals o)
because_at cause locals plain.NoAnswer = tt
because_at cause locals (plain.Refused code at) = tt
because_at cause locals (plain.Found value asked) = ap (map (located locals)) (sym (placed_of-located locals asked))

-- A step that was not refused: the log then has the local variables of the step beside what it keeps.
pub found_step : {A : Type 0} (locals : List Local) (known : List (List Local)) (before later : List Placed) (value : A)
    (o : Explained A)
    → length known ≡ length before → IsAskedAt locals o → logs.after before (outcome_of o) ≡ logs.Got value later
    → after (beside before known) o
    ≡ Got value (beside later (known ++ replicate (length later - length known) locals))
found_step locals known before later value NoAnswer even here is = absurd (cc)
found_step locals known before later value (Refused cause at) even here is = absurd (cc)
found_step locals known before later value (Found found asked) even here is =
    let list : List Located = beside before known in
    let placed : placed_of list ≡ before = placed_of-beside before known in
    let grown = adds locals (placed_of asked) list in
    let keeps : keeping list asked ≡ list ++ map (located locals) grown.more =
    ap (keeping list) here ∙ grown.grows in
    let told : logs.Got found (kept.keeping before (placed_of asked)) ≡ logs.Got value later = is in
    let same : found ≡ value = cc in
    let log : kept.keeping before (placed_of asked) ≡ later = cc in
    let ends_so : later ≡ before ++ grown.more =
    sym log ∙ ap (λ l. kept.keeping l (placed_of asked)) (sym placed) ∙ sym (placed_of-keeping list asked)
    ∙ ap placed_of keeps ∙ placed_of-append list (map (located locals) grown.more)
    ∙ ap (λ l. l ++ placed_of (map (located locals) grown.more)) placed
    ∙ ap (λ l. before ++ l) (placed_of-located locals grown.more) in
    let count : length later - length known ≡ length grown.more =
    omega (arith, even, ap length ends_so, length-append before grown.more) in
    let whole : beside later (known ++ replicate (length later - length known) locals)
    ≡ list ++ map (located locals) grown.more =
    ap (λ n. beside later (known ++ replicate n locals)) count
    ∙ ap (λ l. beside l (known ++ replicate (length grown.more) locals)) ends_so
    ∙ beside-append before grown.more known (replicate (length grown.more) locals) even
    ∙ ap (λ l. list ++ l) (beside-replicate locals grown.more) in
    ap (λ v. Got v (keeping list asked)) same ∙ ap (Got value) (keeps ∙ sym whole)

-- a step that was refused
pub refused_step : {A : Type 0} (known : List (List Local)) (before : List Placed) (code : Code) (at : Place)
    (cause : Cause) (o : Explained A)
    → (outcome_of o ≡ plain.Refused code at → o ≡ Refused cause at)
    → logs.after before (outcome_of o) ≡ logs.Stopped code at
    → after (beside before known) o ≡ Stopped cause at
refused_step known before code at cause NoAnswer told is = absurd (cc)
refused_step known before code at cause (Found found asked) told is = absurd (cc)
refused_step known before code at cause (Refused other place) told is =
    let one : logs.Stopped (code_of other) place ≡ logs.Stopped code at = is in
    let codes : code_of other ≡ code = cc in
    let places : place ≡ at = cc in
    ap (after (beside before known)) (told (ap (λ c. plain.Refused c place) codes ∙ ap (plain.Refused code) places))

one_fewer : {A : Type 0} (n m : ℕ) (x : A) → n ≡ suc m → replicate n x ≡ x ∷ replicate m x
one_fewer n m x e = ap (λ k. replicate k x) e

map_last : {A B : Type 0} (view : A → B) (list : List A) (x : A) → map view (list ++ x ∷ []) ≡ map view list ++ view x ∷ []
map_last view [] x = refl
map_last view (first ∷ list) x = ap (λ l. view first ∷ l) (map_last view list x)

-- one more of what a list is filled up with
pub filled_more : {A B : Type 0} (view : A → B) (known next : List A) (x : A) (y : B) (count : ℕ) (whole : List B)
    → next ≡ known ++ x ∷ [] → view x ≡ y → length known < count
    → map view known ++ replicate (count - length known) y ≡ whole
    → map view next ++ replicate (count - length next) y ≡ whole
filled_more view known next x y count whole is same room before =
    let longer : length next ≡ length known + 1 = ap length is ∙ length-append known (x ∷ []) in
    let fewer : replicate (count - length known) y ≡ y ∷ replicate (count - length next) y =
    one_fewer (count - length known) (count - length next) y (omega (arith, room, longer)) in
    ap (λ l. l ++ replicate (count - length next) y) (ap (map view) is ∙ map_last view known x)
    ∙ append_assoc (map view known) (view x ∷ []) (replicate (count - length next) y)
    ∙ ap (λ v. map view known ++ v ∷ replicate (count - length next) y) same
    ∙ ap (λ l. map view known ++ l) (sym fewer) ∙ before
