-- A comparison that comes again, where other binders were passed, ends where it ended, matches where it matched, and has
-- demands that pass the same tests, where these do not tell own binders apart.
use Rattle.std.proofs.Common.{◌≡◌, ℕ, zero, suc, ◌+◌, ◌-◌, ◌<◌, ◌≤◌, Bool, true, false, ◌&&◌, ◌||◌, not, cond, List, [], ◌∷◌, ◌++◌}
use Rattle.std.proofs.Common.{length, length-append, Option, Some, None, inl, inr, ◌⊎◌, refl, sym, ap, ◌∙◌, subst, arith}
use Rattle.std.specs.Prelude.{nat_eq}
use Rattle.std.specs.List.{list_any, list_all}
use Rattle.std.specs.Option.{option_map}
use Rattle.std.proofs.lemmas.Bool.{cases_eq, cases_lt, eq-eqb, eqb-true, ne_eqb}
use Rattle.cc_capture.specs.declared.var.Var.{Var}
use Rattle.cc_capture.specs.declared.var.Var.TheVariants.{Bound, Free}
use Rattle.cc_capture.specs.declared.var.Elem.{Elem}
use Rattle.cc_capture.specs.declared.var.Elem.TheVariants.{Var as Variable, Cap, Hole}
use Rattle.cc_capture.specs.Rising.{is_listed}
use Rattle.cc_capture.specs.Sets.{Set, Member, contains, is_subset}
use Rattle.cc_capture.proofs.Membership.{Member-flat_image}
use Rattle.cc_core.specs.Shapes.{Shape, BaseShape, AnyShape, TypeVariable, FunctionShape, TypeFunctionShape, BoxShape}
use Rattle.cc_core.specs.Shapes.{ExitShape, CapturingType, capturing}
use Rattle.cc_core.specs.Contexts.{Bind, TermEntry, TypeEntry, Context, lookup}
use Rattle.cc_core.specs.Questions.{is_hole}
use Rattle.cc_core.specs.Traversal.{act_type}
use Rattle.cc_core.specs.Substitution.{single, moved_element, renamed_variable, renaming, renamed, renamed_set, renamed_type}
use Rattle.cc_core.specs.Substitution.{opened_type}
use Rattle.cc_core.specs.Occurrences.{IsAskedOf, IsPositionBelow, positions_below, on_variables}
use Rattle.cc_core.specs.Equality.{same_shape}
use Rattle.cc_core.specs.WellFormed.{kinds_of, IsWellFormedContext, IsWellFormedShape}
use Rattle.cc_core.proofs.KindFacts.{IsKinded, IsKindedSet, IsKinded-from, IsKindedSet-from}
use Rattle.cc_core.proofs.Comparisons.{same_shape-decides}
use Rattle.cc_core.proofs.Conditions.{gives_here, always_on_variables}
use Rattle.cc_core.proofs.FreeActions.{free-putting}
use Rattle.cc_core.proofs.Levels.{acted-level}
use Rattle.cc_core.proofs.Lookups.{lookup-newest, lookup-other, lookup-more, lookup-within, lookup-below, lookup-cases}
use Rattle.cc_core.proofs.Moving.{Member-single, Member-single_itself, moving-congruent, moving-still}
use Rattle.cc_core.proofs.Renaming.{IsFree-renaming, Sends-renaming, renaming-renaming}
use Rattle.cc_core.proofs.Sorts.{SetSort, ShapeSort, TypeSort, Sort, Syntax, acted, MeetsIn, MeetsIn-here, MeetsIn-always, HasKinds}
use Rattle.cc_core.proofs.SubcapturingContexts.{IsKindedEntry, IsKindedContext, IsKindedContext-from, entry_kinded}
use Rattle.cc_core.proofs.WellFormedness.{well_formed-positions_below}
use Rattle.cc_typing_laws.proofs.FormedContexts.{positions_of}
use Rattle.cc_checking.specs.Comparison.{Demand, demanded, Comparison, Unfinished, Mismatch, Matches, and_then, Comparing}
use Rattle.cc_checking.specs.Comparison.{types_compared, bound_in, bound_of, bound_compared, function_compared}
use Rattle.cc_checking.specs.Comparison.{type_function_compared, box_compared, is_any, by_form, comparison}
use Rattle.cc_known.specs.Keeping.{is_at, is_element_below, is_below, has_hole, is_demand_settled}
use Rattle.cc_known.specs.ComparedAgain.{told, ComparedAgain, renamed_entry, seen, Embeds, ComparedEmbedded, SettledEmbedded}
use Rattle.cc_known.proofs.KeptDemands.{all_pass, listed_passes}

-- tests that say the same
pub same_tests : (s t : Bool) → (s ≡ true → t ≡ true) → (t ≡ true → s ≡ true) → s ≡ t
same_tests true t f g = sym (f refl)
same_tests false true f g = g refl
same_tests false false f g = refl

pub all_alike : (f g : Elem → Bool) (xs : List Elem) → ((e : Elem) → is_listed e xs ≡ true → f e ≡ g e)
    → list_all f xs ≡ list_all g xs
all_alike f g xs same =
    same_tests (list_all f xs) (list_all g xs)
    (λ h. all_pass g xs (λ e m. sym (same e m) ∙ listed_passes f xs h e m))
    (λ h. all_pass f xs (λ e m. same e m ∙ listed_passes g xs h e m))

any_all : (f : Elem → Bool) (xs : List Elem) → list_any f xs ≡ not (list_all (λ e. not (f e)) xs)
any_all f [] = refl
any_all f (x ∷ xs) =
    elim (f x) as (λ b. (b || list_any f xs) ≡ not (not b && list_all (λ e. not (f e)) xs)) [
      | true ↦ refl
      | false ↦ any_all f xs
    ]

-- what is told of two comparisons in a row
abbrev both_told : Option Bool → Option Bool → Option Bool
both_told None other = None
both_told (Some one) None = None
both_told (Some one) (Some two) = Some (one && two)

and_joined : (a b c : Bool) → a && (b && c) ≡ (a && b) && c
and_joined true b c = refl
and_joined false b c = refl

pub all_both : (test : Demand → Bool) (ds es : List Demand) → list_all test (ds ++ es) ≡ (list_all test ds && list_all test es)
all_both test [] es = refl
all_both test (d ∷ ds) es =
    ap (λ b. test d && b) (all_both test ds es) ∙ and_joined (test d) (list_all test ds) (list_all test es)

told-and_then : (test : Demand → Bool) (a b : Comparison) → told test (and_then a b) ≡ both_told (told test a) (told test b)
told-and_then test Unfinished b = refl
told-and_then test Mismatch b = refl
told-and_then test (Matches ds) Unfinished = refl
told-and_then test (Matches ds) Mismatch = refl
told-and_then test (Matches ds) (Matches es) = ap Some (all_both test ds es)

told_unless : (other test : Demand → Bool) (s : Bool) (a b c : Comparison) → told other a ≡ told test a
    → told other b ≡ told test c → told other (cond s a b) ≡ told test (cond s a c)
told_unless other test true a b c f e = f
told_unless other test false a b c f e = e

told_where : (other test : Demand → Bool) (s : Bool) (a b c : Comparison) → told other a ≡ told test a
    → told other b ≡ told test c → told other (cond s b a) ≡ told test (cond s c a)
told_where other test true a b c f e = e
told_where other test false a b c f e = f

pub lookup-past : {A : Type 0} (xs : List A) (p : ℕ) → length xs ≤ p → lookup xs p ≡ None
lookup-past [] p h = refl
lookup-past (x ∷ xs) p h = lookup-other x xs p (λ e. omega arith) ∙ lookup-past xs p (omega arith)

-- what is seen of an entry tells its bound, and what it does not tell is not looked up
bound_in-seen : (o : Option Bind) → bound_in (option_map seen o) ≡ bound_in o
bound_in-seen (Some (TermEntry s d)) = refl
bound_in-seen (Some (TypeEntry b)) = refl
bound_in-seen None = refl

-- Whether a variable is below a set, by what stands at its position: as a member, or by its declared set.
abbrev below_at : Context → Set → Option Bind → Elem → Bool
below_at g r (Some (TermEntry s d)) e = list_all (is_element_below g r) d.list || contains e r
below_at g r (Some (TypeEntry b)) e = contains e r
below_at g r None e = contains e r

below_at-seen : (g : Context) (r : Set) (o : Option Bind) (e : Elem) → below_at g r (option_map seen o) e ≡ below_at g r o e
below_at-seen g r (Some (TermEntry s d)) e = refl
below_at-seen g r (Some (TypeEntry b)) e = refl
below_at-seen g r None e = refl

-- an entry on top is passed by, where it is not that of the element
one_passed : (b : Bind) (g : Context) (r : Set) (x : Elem) → is_at (length g) x ≡ false
    → is_element_below (b ∷ g) r x ≡ is_element_below g r x
one_passed (TypeEntry b) g r x h = refl
one_passed (TermEntry s d) g r x h =
    ap (λ t. (t && list_all (is_element_below g r) d.list) || is_element_below g r x) h

all_passed : (g : Context) (r : Set) (x : Elem) → ((q : ℕ) → q < length g → is_at q x ≡ false)
    → is_element_below g r x ≡ contains x r
all_passed [] r x h = refl
all_passed (b ∷ g) r x h =
    one_passed b g r x (h (length g) (omega arith)) ∙ all_passed g r x (λ q l. h q (omega (arith, l)))

not_there : (q p : ℕ) → (q ≡ p → ⊥) → is_at q (Variable (Free p)) ≡ false
not_there q p h = ne_eqb q p h

not_below : (n : ℕ) (x : Elem) → IsAskedOf (IsPositionBelow n) x → is_at n x ≡ false
not_below n (Variable (Bound i)) h = refl
not_below n (Variable (Free p)) h = ne_eqb n p (λ e. omega (arith, h, e))
not_below n Cap h = refl
not_below n (Hole k) h = refl

listed_below : (o : Context) (d : Set) → IsKindedSet (kinds_of o) [] d → (x : Elem) → is_listed x d.list ≡ true
    → IsAskedOf (IsPositionBelow (length o)) x
unfolding contains
listed_below o d k x m = positions_of SetSort o [] d k x m

-- a declared set names what is older
pub older_members : (g : Context) → IsKindedContext g → (p : ℕ) (s : Shape) (d : Set) → lookup g p ≡ Some (TermEntry s d)
    → (x : Elem) → is_listed x d.list ≡ true → IsAskedOf (IsPositionBelow p) x
older_members [] k p s d e = cc
older_members (b ∷ g) k p s d e =
    elim (lookup-cases b g p (TermEntry s d) e) as (λ _. (x : Elem) → is_listed x d.list ≡ true → IsAskedOf (IsPositionBelow p) x) [
      | inl same ↦ λ x m.
          subst (λ q. IsAskedOf (IsPositionBelow q) x) (sym same.0)
          (listed_below g d (subst (IsKindedEntry (kinds_of g)) same.1 k.0).1 x m)
      | inr found ↦ older_members g k.1 p s d found
    ]

-- the declared set of what stands at a position has no other variables than older ones
abbrev pub NamesOlder : Context → ℕ → ℕ → Type 0
NamesOlder g p n =
    (s : Shape) (d : Set) → lookup g p ≡ Some (TermEntry s d) → (x : Elem) → is_listed x d.list ≡ true
    → IsAskedOf (IsPositionBelow n) x

-- One more entry makes no difference to what stands at an older position.
at_deeper : (b : Bind) (g : Context) (r : Set) (o : Option Bind) (e : Elem)
    → ((s : Shape) (d : Set) → o ≡ Some (TermEntry s d) → (x : Elem) → is_listed x d.list ≡ true → is_at (length g) x ≡ false)
    → below_at g r o e ≡ below_at (b ∷ g) r o e
at_deeper b g r (Some (TermEntry s d)) e k =
    ap (λ t. t || contains e r)
    (all_alike (is_element_below g r) (is_element_below (b ∷ g) r) d.list
    (λ x m. sym (one_passed b g r x (k s d refl x m))))
at_deeper b g r (Some (TypeEntry t)) e k = refl
at_deeper b g r None e k = refl

newest_at : (b : Bind) (g : Context) (r : Set) (e : Elem)
    → ((s : Shape) (d : Set) → Some b ≡ Some (TermEntry s d) → (x : Elem) → is_listed x d.list ≡ true → is_at (length g) x ≡ false)
    → is_at (length g) e ≡ true → is_element_below g r e ≡ contains e r
    → is_element_below (b ∷ g) r e ≡ below_at (b ∷ g) r (Some b) e
newest_at (TypeEntry t) g r e k h rest = rest
newest_at (TermEntry s d) g r e k h rest =
    (λ i. (h i && list_all (is_element_below g r) d.list) || rest i)
    ∙ at_deeper (TermEntry s d) g r (Some (TermEntry s d)) e k

-- whether a variable is below a set, by the entry at its position
below_once : (g : Context) (r : Set) (p : ℕ) → NamesOlder g p p
    → is_element_below g r (Variable (Free p)) ≡ below_at g r (lookup g p) (Variable (Free p))
below_once [] r p k = refl
below_once (b ∷ g) r p k =
    elim (cases_eq p (length g)) as (λ _. is_element_below (b ∷ g) r (Variable (Free p)) ≡ below_at (b ∷ g) r (lookup (b ∷ g) p) (Variable (Free p))) [
      | inl same ↦
          let newest = ap (lookup (b ∷ g)) same ∙ lookup-newest b g in
          newest_at b g r (Variable (Free p))
          (λ s d is x m. not_below (length g) x (subst (λ q. IsAskedOf (IsPositionBelow q) x) same (k s d (newest ∙ is) x m)))
          (eq-eqb (length g) p (sym same))
          (all_passed g r (Variable (Free p)) (λ q l. not_there q p (λ e. omega (arith, l, e, same))))
          ∙ ap (λ o. below_at (b ∷ g) r o (Variable (Free p))) (sym newest)
      | inr other ↦
          let here = lookup-other b g p other in
          one_passed b g r (Variable (Free p)) (not_there (length g) p (λ e. other (sym e)))
          ∙ below_once g r p (λ s d is. k s d (here ∙ is))
          ∙ at_deeper b g r (lookup g p) (Variable (Free p))
          (λ s d is x m. not_below (length g) x (further p (length g) (lookup-below g p (TermEntry s d) is) x (k s d (here ∙ is) x m)))
          ∙ ap (λ o. below_at (b ∷ g) r o (Variable (Free p))) (sym here)
    ]
  where
    further : (q n : ℕ) → q < n → (x : Elem) → IsAskedOf (IsPositionBelow q) x → IsAskedOf (IsPositionBelow n) x
    further q n l (Variable (Bound i)) h = h
    further q n l (Variable (Free o)) h = omega (arith, l, h)
    further q n l Cap h = h
    further q n l (Hole m) h = h

-- A map of positions by which what is seen of one context stands in another one, on which as much stands.
pub record Moves (small real : Context) (to back : ℕ → ℕ) : Type 0 where
  pub formed : IsKindedContext small
  pub older : (p : ℕ) → NamesOlder real (to p) (to p)
  pub undone : (p : ℕ) → back (to p) ≡ p
  pub passes : (m : ℕ) → to (m + length small) ≡ m + length real
  pub entries : (p : ℕ) → option_map seen (lookup real (to p)) ≡ option_map (λ b. renamed_entry to (seen b)) (lookup small p)

-- What stands on the two.
module _ (small real : Context) (to back : ℕ → ℕ) (moves : Moves small real to back) where
  abbrev pub moved : Elem → Elem
  moved = moved_element (renamed_variable to)

  returned : (x : Elem) → moved_element (renamed_variable back) (moved x) ≡ x
  returned (Variable (Bound i)) = refl
  returned (Variable (Free p)) = ap (λ q. Variable (Free q)) (moves.undone p)
  returned Cap = refl
  returned (Hole n) = refl

  one_moved : (x y : Elem) → moved x ≡ moved y → x ≡ y
  one_moved x y e = sym (returned x) ∙ ap (moved_element (renamed_variable back)) e ∙ returned y

  pub one_position : (p q : ℕ) → to p ≡ to q → p ≡ q
  one_position p q e = sym (moves.undone p) ∙ ap back e ∙ moves.undone q

  pub member_moved : (x : Elem) (c : Set) → Member x c → Member (moved x) (renamed_set to c)
  member_moved x c m =
      (Member-flat_image (λ y. single (moved y)) (moved x) c).1 (x, m, Member-single_itself (moved x))

  pub member_from : (y : Elem) (c : Set) → Member y (renamed_set to c) → (x : Elem) × Member x c × (y ≡ moved x)
  member_from y c m =
      let h = (Member-flat_image (λ x. single (moved x)) y c).0 m in (h.0, h.1, Member-single y (moved h.0) h.2)

  pub contains-moved : (x : Elem) (c : Set) → contains (moved x) (renamed_set to c) ≡ contains x c
  contains-moved x c =
      same_tests (contains (moved x) (renamed_set to c)) (contains x c)
      (λ m. let h = member_from (moved x) c m in subst (λ y. Member y c) (sym (one_moved x h.0 h.2)) h.1)
      (member_moved x c)

  pub list_all-renamed : (test : Elem → Bool) (c : Set)
      → list_all test (renamed_set to c).list ≡ list_all (λ x. test (moved x)) c.list
  unfolding contains
  list_all-renamed test c =
      same_tests (list_all test (renamed_set to c).list) (list_all (λ x. test (moved x)) c.list)
      (λ h. all_pass (λ x. test (moved x)) c.list (λ e m. listed_passes test (renamed_set to c).list h (moved e) (member_moved e c m)))
      (λ h. all_pass test (renamed_set to c).list
      (λ y m. let from = member_from y c m in subst (λ z. test z ≡ true) (sym from.2)
      (listed_passes (λ x. test (moved x)) c.list h from.0 from.1)))

  hole_moved : (x : Elem) → is_hole (moved x) ≡ is_hole x
  hole_moved (Variable v) = refl
  hole_moved Cap = refl
  hole_moved (Hole n) = refl

  pub has_hole-renamed : (c : Set) → has_hole (renamed_set to c) ≡ has_hole c
  has_hole-renamed c =
      any_all is_hole (renamed_set to c).list ∙ ap not (list_all-renamed (λ e. not (is_hole e)) c)
      ∙ (λ i. not (list_all (λ e. not (hole_moved e i)) c.list)) ∙ sym (any_all is_hole c.list)

  is_subset-renamed : (l r : Set) → is_subset (renamed_set to l) (renamed_set to r) ≡ is_subset l r
  unfolding is_subset
  is_subset-renamed l r =
      list_all-renamed (λ e. contains e (renamed_set to r)) l ∙ (λ i. list_all (λ e. contains-moved e r i) l.list)

  -- whether an element is the variable at a position
  is_at-moved : (q : ℕ) (e : Elem) → is_at (to q) (moved e) ≡ is_at q e
  is_at-moved q (Variable (Bound i)) = refl
  is_at-moved q (Variable (Free p)) =
      same_tests (nat_eq (to q) (to p)) (nat_eq q p)
      (λ h. eq-eqb q p (one_position q p (eqb-true (to q) (to p) h)))
      (λ h. eq-eqb (to q) (to p) (ap to (eqb-true q p h)))
  is_at-moved q Cap = refl
  is_at-moved q (Hole n) = refl

  -- whether an element is below a set: in the two contexts themselves
  variable_alike : (r : Set) (p : ℕ)
      → ((q : ℕ) → q < p → is_element_below real (renamed_set to r) (Variable (Free (to q))) ≡ is_element_below small r (Variable (Free q)))
      → is_element_below real (renamed_set to r) (Variable (Free (to p))) ≡ is_element_below small r (Variable (Free p))
  variable_alike r p h =
      below_once real (renamed_set to r) (to p) (moves.older p)
      ∙ sym (below_at-seen real (renamed_set to r) (lookup real (to p)) (Variable (Free (to p))))
      ∙ ap (λ o. below_at real (renamed_set to r) o (Variable (Free (to p)))) (moves.entries p)
      ∙ by (lookup small p) refl
      ∙ sym (below_once small r p (older_members small moves.formed p))
    where
      each : (x : Elem) → IsAskedOf (IsPositionBelow p) x
          → is_element_below real (renamed_set to r) (moved x) ≡ is_element_below small r x
      each (Variable (Free q)) l = h q l
      each (Variable (Bound i)) l =
          all_passed real (renamed_set to r) (Variable (Bound i)) (λ q t. refl) ∙ contains-moved (Variable (Bound i)) r
          ∙ sym (all_passed small r (Variable (Bound i)) (λ q t. refl))
      each Cap l =
          all_passed real (renamed_set to r) Cap (λ q t. refl) ∙ contains-moved Cap r
          ∙ sym (all_passed small r Cap (λ q t. refl))
      each (Hole n) l =
          all_passed real (renamed_set to r) (Hole n) (λ q t. refl) ∙ contains-moved (Hole n) r
          ∙ sym (all_passed small r (Hole n) (λ q t. refl))

      by : (o : Option Bind) → lookup small p ≡ o
          → below_at real (renamed_set to r) (option_map (λ b. renamed_entry to (seen b)) o) (Variable (Free (to p)))
          ≡ below_at small r o (Variable (Free p))
      by (Some (TermEntry s d)) is =
          let all = list_all-renamed (is_element_below real (renamed_set to r)) d
          ∙ all_alike (λ x. is_element_below real (renamed_set to r) (moved x)) (is_element_below small r) d.list
          (λ x m. each x (older_members small moves.formed p s d is x m)) in
          λ i. all i || contains-moved (Variable (Free p)) r i
      by (Some (TypeEntry b)) is = contains-moved (Variable (Free p)) r
      by None is = contains-moved (Variable (Free p)) r

  variables_alike : (r : Set) (n p : ℕ) → p < n
      → is_element_below real (renamed_set to r) (Variable (Free (to p))) ≡ is_element_below small r (Variable (Free p))
  variables_alike r zero p l = absurd (omega (arith, l))
  variables_alike r (suc n) p l = variable_alike r p (λ q t. variables_alike r n q (omega (arith, l, t)))

  element_alike : (r : Set) (e : Elem) → is_element_below real (renamed_set to r) (moved e) ≡ is_element_below small r e
  element_alike r (Variable (Free p)) = variables_alike r (suc p) p (omega arith)
  element_alike r (Variable (Bound i)) =
      all_passed real (renamed_set to r) (Variable (Bound i)) (λ q t. refl) ∙ contains-moved (Variable (Bound i)) r
      ∙ sym (all_passed small r (Variable (Bound i)) (λ q t. refl))
  element_alike r Cap =
      all_passed real (renamed_set to r) Cap (λ q t. refl) ∙ contains-moved Cap r
      ∙ sym (all_passed small r Cap (λ q t. refl))
  element_alike r (Hole n) =
      all_passed real (renamed_set to r) (Hole n) (λ q t. refl) ∙ contains-moved (Hole n) r
      ∙ sym (all_passed small r (Hole n) (λ q t. refl))

  -- what stands on the small one, on top of the other
  abbrev pub again : Context → Context
  again [] = real
  again (b ∷ more) = renamed_entry to b ∷ again more

  pub length-again : (more : Context) → length (again more) ≡ to (length (more ++ small))
  length-again more =
      counted more ∙ sym (moves.passes (length more)) ∙ ap to (sym (length-append more small))
    where
      counted : (xs : Context) → length (again xs) ≡ length xs + length real
      counted [] = omega arith
      counted (b ∷ xs) = let rest = counted xs in omega (arith, rest)

  element_again : (more : Context) (r : Set) (e : Elem)
      → is_element_below (again more) (renamed_set to r) (moved e) ≡ is_element_below (more ++ small) r e
  element_again [] r e = element_alike r e
  element_again (TypeEntry b ∷ more) r e = element_again more r e
  element_again (TermEntry s d ∷ more) r e =
      let at : is_at (length (again more)) (moved e) ≡ is_at (length (more ++ small)) e =
      ap (λ q. is_at q (moved e)) (length-again more) ∙ is_at-moved (length (more ++ small)) e in
      let all = list_all-renamed (is_element_below (again more) (renamed_set to r)) d
      ∙ (λ i. list_all (λ x. element_again more r x i) d.list) in
      λ i. (at i && all i) || element_again more r e i

  pub settled-again : (more : Context) (l r : Set)
      → is_demand_settled (demanded (again more) (renamed_set to l) (renamed_set to r))
      ≡ is_demand_settled (demanded (more ++ small) l r)
  settled-again more l r =
      let below : is_below (again more) (renamed_set to l) (renamed_set to r) ≡ is_below (more ++ small) l r =
      list_all-renamed (is_element_below (again more) (renamed_set to r)) l
      ∙ (λ i. list_all (λ x. element_again more r x i) l.list) in
      λ i. cond (has_hole-renamed r i) (is_subset-renamed l r i) (below i)

  -- what is looked up
  pub entry-again : (more : Context) (p : ℕ)
      → option_map seen (lookup (again more) (to p)) ≡ option_map (λ b. renamed_entry to (seen b)) (lookup (more ++ small) p)
  entry-again [] p = moves.entries p
  entry-again (b ∷ more) p =
      elim (cases_eq p (length (more ++ small))) as (λ _. option_map seen (lookup (again (b ∷ more)) (to p)) ≡ option_map (λ c. renamed_entry to (seen c)) (lookup (b ∷ more ++ small) p)) [
        | inl same ↦
            ap (option_map seen)
            (ap (lookup (again (b ∷ more))) (ap to same ∙ sym (length-again more)) ∙ lookup-newest (renamed_entry to b) (again more))
            ∙ ap Some (seen-renamed b)
            ∙ ap (option_map (λ c. renamed_entry to (seen c))) (sym (ap (lookup (b ∷ more ++ small)) same ∙ lookup-newest b (more ++ small)))
        | inr other ↦
            ap (option_map seen)
            (lookup-other (renamed_entry to b) (again more) (to p)
            (λ e. other (one_position p (length (more ++ small)) (e ∙ length-again more))))
            ∙ entry-again more p
            ∙ ap (option_map (λ c. renamed_entry to (seen c))) (sym (lookup-other b (more ++ small) p other))
      ]
    where
      seen-renamed : (c : Bind) → seen (renamed_entry to c) ≡ renamed_entry to (seen c)
      seen-renamed (TermEntry s d) = refl
      seen-renamed (TypeEntry t) = refl

  bound-again : (more : Context) (v : Var)
      → bound_of (again more) (renamed_variable to v) ≡ option_map (renamed to) (bound_of (more ++ small) v)
  bound-again more (Bound i) = refl
  bound-again more (Free p) =
      sym (bound_in-seen (lookup (again more) (to p))) ∙ ap bound_in (entry-again more p) ∙ bound_renamed (lookup (more ++ small) p)
    where
      bound_renamed : (o : Option Bind) → bound_in (option_map (λ b. renamed_entry to (seen b)) o) ≡ option_map (renamed to) (bound_in o)
      bound_renamed (Some (TypeEntry b)) = refl
      bound_renamed (Some (TermEntry s c)) = refl
      bound_renamed None = refl

  -- shapes
  renamed_back : (s : Shape) → renamed back (renamed to s) ≡ s
  renamed_back s =
      renaming-renaming ShapeSort back to 0 s ∙ moving-still (λ d v. renamed_variable (λ p. back (to p)) v) ShapeSort 0 s
      (MeetsIn-always ShapeSort (on_variables (λ d v. renamed_variable (λ p. back (to p)) v ≡ v))
      (always_on_variables (λ d v. renamed_variable (λ p. back (to p)) v ≡ v) (λ d v. each v)) 0 s)
    where
      each : (v : Var) → renamed_variable (λ p. back (to p)) v ≡ v
      each (Bound i) = refl
      each (Free p) = ap Free (moves.undone p)

  same_shape-renamed : (l r : Shape) → same_shape (renamed to l) (renamed to r) ≡ same_shape l r
  same_shape-renamed l r =
      same_tests (same_shape (renamed to l) (renamed to r)) (same_shape l r)
      (λ h. (same_shape-decides l r).1
      (sym (renamed_back l) ∙ ap (renamed back) ((same_shape-decides (renamed to l) (renamed to r)).0 h) ∙ renamed_back r))
      (λ h. (same_shape-decides (renamed to l) (renamed to r)).1 (ap (renamed to) ((same_shape-decides l r).0 h)))

  is_any-renamed : (s : Shape) → is_any (renamed to s) ≡ is_any s
  is_any-renamed (BaseShape b) = refl
  is_any-renamed AnyShape = refl
  is_any-renamed (TypeVariable v) = refl
  is_any-renamed (FunctionShape t c g e) = refl
  is_any-renamed (TypeFunctionShape b g e) = refl
  is_any-renamed (BoxShape t c) = refl
  is_any-renamed (ExitShape g) = refl

  opened-again : (more : Context) (t : CapturingType)
      → opened_type (length (again more)) (act_type (renaming to) 1 t) ≡ renamed_type to (opened_type (length (more ++ small)) t)
  opened-again more t =
      let n = length (more ++ small) in
      ap (λ m. opened_type m (act_type (renaming to) 1 t)) (length-again more)
      ∙ ap (opened_type (to n)) (acted-level TypeSort (renaming to) (IsFree-renaming to) 1 0 t)
      ∙ sym (free-putting (renaming to) (IsFree-renaming to) (Free n) (Free (to n)) (Sends-renaming to n) TypeSort 0 t)

  -- A test that says of what comes again what another says of it at first.
  module _ (other test : Demand → Bool) (alike : (more : Context) (l r : Set) → other (demanded (again more) (renamed_set to l) (renamed_set to r)) ≡ test (demanded (more ++ small) l r)) where
    abbrev TellsAgain : Comparing → Type 0
    TellsAgain compare =
        (more : Context) (l r : Shape)
        → told other (compare (again more) (renamed to l) (renamed to r)) ≡ told test (compare (more ++ small) l r)

    types_again : (compare : Comparing) → TellsAgain compare → (more : Context) (t u : CapturingType)
        → told other (types_compared compare (again more) (renamed_type to t) (renamed_type to u))
        ≡ told test (types_compared compare (more ++ small) t u)
    types_again compare h more t u =
        told-and_then other (Matches (demanded (again more) (renamed_set to t.set) (renamed_set to u.set) ∷ []))
        (compare (again more) (renamed to t.shape) (renamed to u.shape))
        ∙ (λ i. both_told (Some (alike more t.set u.set i && true)) (h more t.shape u.shape i))
        ∙ sym (told-and_then test (Matches (demanded (more ++ small) t.set u.set ∷ [])) (compare (more ++ small) t.shape u.shape))

    bodies_again : (compare : Comparing) → TellsAgain compare → (more : Context) (b : Bind) (t u : CapturingType)
        → told other (types_compared compare (renamed_entry to b ∷ again more) (opened_type (length (again more)) (act_type (renaming to) 1 t))
        (opened_type (length (again more)) (act_type (renaming to) 1 u)))
        ≡ told test (types_compared compare (b ∷ more ++ small) (opened_type (length (more ++ small)) t) (opened_type (length (more ++ small)) u))
    bodies_again compare h more b t u =
        (λ i. told other (types_compared compare (again (b ∷ more)) (opened-again more t i) (opened-again more u i)))
        ∙ types_again compare h (b ∷ more) (opened_type (length (more ++ small)) t) (opened_type (length (more ++ small)) u)

    function_again : (compare : Comparing) → TellsAgain compare → (more : Context) (t u : CapturingType) (r : Shape)
        → told other (function_compared compare (again more) (renamed_type to t) (act_type (renaming to) 1 u) (renamed to r))
        ≡ told test (function_compared compare (more ++ small) t u r)
    function_again compare h more t u (FunctionShape t' c' u' d') =
        told-and_then other (types_compared compare (again more) (renamed_type to (capturing t' c')) (renamed_type to t)) _
        ∙ (λ i. both_told (types_again compare h more (capturing t' c') t i) (bodies_again compare h more (TermEntry t' c') u (capturing u' d') i))
        ∙ sym (told-and_then test (types_compared compare (more ++ small) (capturing t' c') t) _)
    function_again compare h more t u (BaseShape b) = refl
    function_again compare h more t u AnyShape = refl
    function_again compare h more t u (TypeVariable v) = refl
    function_again compare h more t u (TypeFunctionShape b g e) = refl
    function_again compare h more t u (BoxShape s c) = refl
    function_again compare h more t u (ExitShape g) = refl

    type_function_again : (compare : Comparing) → TellsAgain compare → (more : Context) (b : Shape) (u : CapturingType) (r : Shape)
        → told other (type_function_compared compare (again more) (renamed to b) (act_type (renaming to) 1 u) (renamed to r))
        ≡ told test (type_function_compared compare (more ++ small) b u r)
    type_function_again compare h more b u (TypeFunctionShape b' u' d') =
        ap (λ s. told other (cond s (types_compared compare (TypeEntry (renamed to b) ∷ again more) (opened_type (length (again more)) (act_type (renaming to) 1 u))
        (opened_type (length (again more)) (act_type (renaming to) 1 (capturing u' d')))) Mismatch)) (same_shape-renamed b b')
        ∙ told_where other test (same_shape b b') Mismatch _ _ refl (bodies_again compare h more (TypeEntry b) u (capturing u' d'))
    type_function_again compare h more b u (BaseShape o) = refl
    type_function_again compare h more b u AnyShape = refl
    type_function_again compare h more b u (TypeVariable v) = refl
    type_function_again compare h more b u (FunctionShape t c g e) = refl
    type_function_again compare h more b u (BoxShape s c) = refl
    type_function_again compare h more b u (ExitShape g) = refl

    box_again : (compare : Comparing) → TellsAgain compare → (more : Context) (t : CapturingType) (r : Shape)
        → told other (box_compared compare (again more) (renamed_type to t) (renamed to r))
        ≡ told test (box_compared compare (more ++ small) t r)
    box_again compare h more t (BoxShape s c) = types_again compare h more t (capturing s c)
    box_again compare h more t (BaseShape o) = refl
    box_again compare h more t AnyShape = refl
    box_again compare h more t (TypeVariable v) = refl
    box_again compare h more t (FunctionShape u c g e) = refl
    box_again compare h more t (TypeFunctionShape b g e) = refl
    box_again compare h more t (ExitShape g) = refl

    bound_compared-again : (compare : Comparing) → TellsAgain compare → (more : Context) (v : Var) (r : Shape)
        → told other (bound_compared compare (again more) (bound_of (again more) (renamed_variable to v)) (renamed to r))
        ≡ told test (bound_compared compare (more ++ small) (bound_of (more ++ small) v) r)
    bound_compared-again compare h more v r =
        ap (λ o. told other (bound_compared compare (again more) o (renamed to r))) (bound-again more v)
        ∙ followed (bound_of (more ++ small) v)
      where
        followed : (o : Option Shape) → told other (bound_compared compare (again more) (option_map (renamed to) o) (renamed to r))
            ≡ told test (bound_compared compare (more ++ small) o r)
        followed (Some s) = h more s r
        followed None = refl

    form_again : (compare : Comparing) → TellsAgain compare → TellsAgain (by_form compare)
    unfolding by_form
    form_again compare h more (BaseShape b) r = refl
    form_again compare h more AnyShape r = refl
    form_again compare h more (TypeVariable v) r = bound_compared-again compare h more v r
    form_again compare h more (FunctionShape t c u d) r = function_again compare h more (capturing t c) (capturing u d) r
    form_again compare h more (TypeFunctionShape b u d) r = type_function_again compare h more b (capturing u d) r
    form_again compare h more (BoxShape t c) r = box_again compare h more (capturing t c) r
    form_again compare h more (ExitShape g) r = refl

    comparison_again : (steps : ℕ) → TellsAgain (comparison steps)
    unfolding comparison
    comparison_again zero more l r = refl
    comparison_again (suc steps) more l r =
        (λ i. told other (cond (same_shape-renamed l r i) (Matches []) (cond (is_any-renamed r i) (Matches [])
        (by_form (comparison steps) (again more) (renamed to l) (renamed to r)))))
        ∙ told_unless other test (same_shape l r) (Matches []) _ _ refl (told_unless other test (is_any r) (Matches []) _ _ refl
        (form_again (comparison steps) (comparison_again steps) more l r))

-- a test that is the same for all that comes again with the oldest entries where they are, wherever the others stand
abbrev pub TestsAgain : ℕ → (Demand → Bool) → Type 0
TestsAgain oldest test = (small real : Context) (to back : ℕ → ℕ) (moves : Moves small real to back) → oldest ≤ length small
    → ((p : ℕ) → p < oldest → to p ≡ p) → (more : Context) (l r : Set) → test (demanded (again small real to back moves more) (renamed_set to l) (renamed_set to r)) ≡ test (demanded (more ++ small) l r)

pub settled_again : (oldest : ℕ) → TestsAgain oldest is_demand_settled
settled_again oldest small real to back moves within stays = settled-again small real to back moves

-- renamings that agree on the positions of what is well formed
renamings_agree : (sort : Sort) (n : ℕ) (to other : ℕ → ℕ) → ((p : ℕ) → p < n → other p ≡ to p)
    → (x : Syntax sort) → MeetsIn sort (positions_below n) 0 x → acted sort (renaming other) 0 x ≡ acted sort (renaming to) 0 x
renamings_agree sort n to other same x m =
    moving-congruent (λ d v. renamed_variable other v) (λ d v. renamed_variable to v) sort 0 x
    (MeetsIn-here sort (positions_below n) (on_variables (λ d v. renamed_variable other v ≡ renamed_variable to v))
    (gives_here _ _ (λ d v h. each v h)) 0 x m)
  where
    each : (v : Var) → IsPositionBelow n v → renamed_variable other v ≡ renamed_variable to v
    each (Bound i) h = refl
    each (Free p) h = ap Free (same p h)

pub renamed_same : (sort : Sort) (n : ℕ) (to : ℕ → ℕ) → ((p : ℕ) → p < n → to p ≡ p)
    → (x : Syntax sort) → MeetsIn sort (positions_below n) 0 x → acted sort (renaming to) 0 x ≡ x
renamed_same sort n to same x m =
    moving-still (λ d v. renamed_variable to v) sort 0 x
    (MeetsIn-here sort (positions_below n) (on_variables (λ d v. renamed_variable to v ≡ v))
    (gives_here _ _ (λ d v h. each v h)) 0 x m)
  where
    each : (v : Var) → IsPositionBelow n v → renamed_variable to v ≡ v
    each (Bound i) h = refl
    each (Free p) h = ap Free (same p h)

-- one of two numbers
abbrev pick : {A B : Type 0} → A ⊎ B → ℕ → ℕ → ℕ
pick (inl a) x y = x
pick (inr b) x y = y

-- A map that keeps the first so many positions apart is carried on beyond them, and goes back.
module _ (n k : ℕ) (to : ℕ → ℕ) (apart : (p q : ℕ) → p < n → q < n → to p ≡ to q → p ≡ q) (below : (p : ℕ) → p < n → to p < k) where
  abbrev onward : ℕ → ℕ
  onward p = pick (cases_lt p n) (to p) (p - n + k)

  onward_first : (p : ℕ) → p < n → onward p ≡ to p
  onward_first p h = by (cases_lt p n)
    where
      by : (c : (p < n) ⊎ (n ≤ p)) → pick c (to p) (p - n + k) ≡ to p
      by (inl l) = refl
      by (inr l) = absurd (omega (arith, h, l))

  onward_rest : (m : ℕ) → onward (m + n) ≡ m + k
  onward_rest m = by (cases_lt (m + n) n)
    where
      by : (c : (m + n < n) ⊎ (n ≤ m + n)) → pick c (to (m + n)) (m + n - n + k) ≡ m + k
      by (inl l) = absurd (omega (arith, l))
      by (inr l) = omega arith

  abbrev found : ℕ → ℕ → ℕ
  found zero q = zero
  found (suc m) q = cond (nat_eq (to m) q) m (found m q)

  found_there : (m : ℕ) → m ≤ n → (p : ℕ) → p < m → found m (to p) ≡ p
  found_there zero l p h = absurd (omega (arith, h))
  found_there (suc m) l p h =
      elim (cases_eq (to m) (to p)) as (λ _. found (suc m) (to p) ≡ p) [
        | inl same ↦
            ap (λ b. cond b m (found m (to p))) (eq-eqb (to m) (to p) same)
            ∙ apart m p (omega (arith, l)) (omega (arith, l, h)) same
        | inr other ↦
            ap (λ b. cond b m (found m (to p))) (ne_eqb (to m) (to p) other)
            ∙ found_there m (omega (arith, l)) p (less other)
      ]
    where
      less : (to m ≡ to p → ⊥) → p < m
      less other =
          elim (cases_eq p m) as (λ _. p < m) [
            | inl same ↦ absurd (other (ap to (sym same)))
            | inr apart ↦ omega (arith, h, apart)
          ]

  abbrev homeward : ℕ → ℕ
  homeward q = pick (cases_lt q k) (found n q) (q - k + n)

  homeward_onward : (p : ℕ) → homeward (onward p) ≡ p
  homeward_onward p =
      elim (cases_lt p n) as (λ _. homeward (onward p) ≡ p) [
        | inl l ↦ ap homeward (onward_first p l) ∙ first l (cases_lt (to p) k)
        | inr l ↦
            ap homeward (ap onward (omega (arith, l)) ∙ onward_rest (p - n)) ∙ rest l (cases_lt (p - n + k) k)
      ]
    where
      first : p < n → (c : (to p < k) ⊎ (k ≤ to p)) → pick c (found n (to p)) (to p - k + n) ≡ p
      first l (inl t) = found_there n (omega arith) p l
      first l (inr t) = let there = below p l in absurd (omega (arith, t, there))

      rest : n ≤ p → (c : (p - n + k < k) ⊎ (k ≤ p - n + k)) → pick c (found n (p - n + k)) (p - n + k - k + n) ≡ p
      rest l (inl t) = absurd (omega (arith, t))
      rest l (inr t) = omega (arith, l)

-- The entries of a small context that stands in another one.
module _ (small real : Context) (to : ℕ → ℕ) (formed : IsKindedContext small) (older : (p : ℕ) → p < length small → NamesOlder real (to p) (to p)) (embeds : Embeds small real to) where
  inside : (p : ℕ) → p < length small → to p < length real
  inside p h =
      let there = lookup-within small p h in
      seen_there (lookup real (to p)) refl (embeds.entries p h ∙ ap (option_map (λ b. renamed_entry to (seen b))) there.1)
    where
      seen_there : (o : Option Bind) → lookup real (to p) ≡ o → {e : Bind} → option_map seen o ≡ Some e → to p < length real
      seen_there (Some b) is same = lookup-below real (to p) b is
      seen_there None is same = cc

  abbrev out : ℕ → ℕ
  out = onward (length small) (length real) to embeds.apart inside

  abbrev into : ℕ → ℕ
  into = homeward (length small) (length real) to embeds.apart inside

  renamed_out : (sort : Sort) (x : Syntax sort) → HasKinds sort (kinds_of small) [] x
      → acted sort (renaming out) 0 x ≡ acted sort (renaming to) 0 x
  renamed_out sort x h =
      renamings_agree sort (length small) to out (onward_first (length small) (length real) to embeds.apart inside) x
      (positions_of sort small [] x h)

  seen_out : (b : Bind) → IsKindedEntry (kinds_of small) b → renamed_entry to (seen b) ≡ renamed_entry out (seen b)
  seen_out (TermEntry s d) k = ap (TermEntry AnyShape) (sym (renamed_out SetSort d k.1))
  seen_out (TypeEntry s) k = ap TypeEntry (sym (renamed_out ShapeSort s k))

  entry_out : (p : ℕ) → option_map seen (lookup real (out p)) ≡ option_map (λ b. renamed_entry out (seen b)) (lookup small p)
  entry_out p =
      elim (cases_lt p (length small)) as (λ _. option_map seen (lookup real (out p)) ≡ option_map (λ b. renamed_entry out (seen b)) (lookup small p)) [
        | inl l ↦
            let there = lookup-within small p l in
            ap (λ q. option_map seen (lookup real q)) (onward_first (length small) (length real) to embeds.apart inside p l)
            ∙ embeds.entries p l
            ∙ ap (option_map (λ b. renamed_entry to (seen b))) there.1
            ∙ ap Some (seen_out there.0 (entry_kinded small p there.0 formed there.1))
            ∙ ap (option_map (λ b. renamed_entry out (seen b))) (sym there.1)
        | inr l ↦
            let is : out p ≡ p - length small + length real =
            ap out (omega (arith, l)) ∙ onward_rest (length small) (length real) to embeds.apart inside (p - length small) in
            ap (option_map seen) (lookup-past real (out p) (omega (arith, is)))
            ∙ ap (option_map (λ b. renamed_entry out (seen b))) (sym (lookup-past small p l))
      ]

  older_out : (p : ℕ) → NamesOlder real (out p) (out p)
  older_out p =
      elim (cases_lt p (length small)) as (λ _. NamesOlder real (out p) (out p)) [
        | inl l ↦
            subst (λ q. NamesOlder real q q) (sym (onward_first (length small) (length real) to embeds.apart inside p l)) (older p l)
        | inr l ↦ λ s d is.
            let at : out p ≡ p - length small + length real =
            ap out (omega (arith, l)) ∙ onward_rest (length small) (length real) to embeds.apart inside (p - length small) in
            let there = lookup-below real (out p) (TermEntry s d) is in
            absurd (omega (arith, at, there))
      ]

  moves_out : Moves small real out into
  moves_out = record {
    formed = formed;
    older = older_out;
    undone = homeward_onward (length small) (length real) to embeds.apart inside;
    passes = onward_rest (length small) (length real) to embeds.apart inside;
    entries = entry_out;
  }

  still_out : (oldest : ℕ) → oldest ≤ length small → ((p : ℕ) → p < oldest → to p ≡ p) → (p : ℕ) → p < oldest → out p ≡ p
  still_out oldest within stays p h =
      onward_first (length small) (length real) to embeds.apart inside p (omega (arith, h, within)) ∙ stays p h

  -- by a test that says of what comes again what another says of it at first
  pub told_by : (other test : Demand → Bool)
      → ((far back : ℕ → ℕ) (moves : Moves small real far back) → ((p : ℕ) → p < length small → far p ≡ to p)
      → (more : Context) (l r : Set) → other (demanded (again small real far back moves more) (renamed_set far l) (renamed_set far r)) ≡ test (demanded (more ++ small) l r))
      → (steps : ℕ) (l r : Shape)
      → MeetsIn ShapeSort (positions_below (length small)) 0 l → MeetsIn ShapeSort (positions_below (length small)) 0 r
      → told other (comparison steps real (renamed to l) (renamed to r)) ≡ told test (comparison steps small l r)
  told_by other test alike steps l r left right =
      let first = onward_first (length small) (length real) to embeds.apart inside in
      let agree : (s : Shape) → MeetsIn ShapeSort (positions_below (length small)) 0 s → renamed to s ≡ renamed out s =
      λ s h. sym (renamings_agree ShapeSort (length small) to out first s h) in
      (λ i. told other (comparison steps real (agree l left i) (agree r right i)))
      ∙ comparison_again small real out into moves_out other test (alike out into moves_out first) steps [] l r

  pub told_embedded : (oldest : ℕ) → oldest ≤ length small → ((p : ℕ) → p < oldest → to p ≡ p)
      → (test : Demand → Bool) → TestsAgain oldest test → (steps : ℕ) (l r : Shape)
      → IsKinded (kinds_of small) [] l → IsKinded (kinds_of small) [] r
      → told test (comparison steps real (renamed to l) (renamed to r)) ≡ told test (comparison steps small l r)
  told_embedded oldest within stays test alike steps l r left right =
      (λ i. told test (comparison steps real (sym (renamed_out ShapeSort l left) i) (sym (renamed_out ShapeSort r right) i)))
      ∙ comparison_again small real out into moves_out test test
      (alike small real out into moves_out within (still_out oldest within stays)) steps [] l r

  -- demands of sets
  pub demand_embedded : (l r : Set) → IsKindedSet (kinds_of small) [] l → IsKindedSet (kinds_of small) [] r
      → is_demand_settled (demanded real (renamed_set to l) (renamed_set to r)) ≡ is_demand_settled (demanded small l r)
  demand_embedded l r left right =
      (λ i. is_demand_settled (demanded real (sym (renamed_out SetSort l left) i) (sym (renamed_out SetSort r right) i)))
      ∙ settled-again small real out into moves_out [] l r

  -- a type variable by its bound
  pub told_bound_embedded : (oldest : ℕ) → oldest ≤ length small → ((p : ℕ) → p < oldest → to p ≡ p)
      → (test : Demand → Bool) → TestsAgain oldest test → (steps : ℕ) (v : Var) (r : Shape)
      → IsKinded (kinds_of small) [] (TypeVariable v) → IsKinded (kinds_of small) [] r
      → told test (bound_compared (comparison steps) real (bound_of real (renamed_variable to v)) (renamed to r))
      ≡ told test (bound_compared (comparison steps) small (bound_of small v) r)
  told_bound_embedded oldest within stays test alike steps v r named right =
      (λ i. told test (bound_compared (comparison steps) real (bound_of real (variable_out (sym (renamed_out ShapeSort (TypeVariable v) named)) i)) (sym (renamed_out ShapeSort r right) i)))
      ∙ bound_compared-again small real out into moves_out test test tests (comparison steps)
      (comparison_again small real out into moves_out test test tests steps) [] v r
    where
      tests : (more : Context) (left other : Set)
          → test (demanded (again small real out into moves_out more) (renamed_set out left) (renamed_set out other))
          ≡ test (demanded (more ++ small) left other)
      tests = alike small real out into moves_out within (still_out oldest within stays)

      variable_in : Shape → Var
      variable_in (TypeVariable w) = w
      variable_in _ = v

      variable_out : TypeVariable (renamed_variable to v) ≡ TypeVariable (renamed_variable out v) → renamed_variable to v ≡ renamed_variable out v
      variable_out e = ap variable_in e

-- what is seen of the entries of a base stays where their positions do
pub still_entry : (base : Context) (to : ℕ → ℕ) → ((p : ℕ) → p < length base → to p ≡ p) → IsKindedContext base
    → (p : ℕ) (b : Bind) → lookup base p ≡ Some b → renamed_entry to (seen b) ≡ seen b
still_entry base to stays k p (TermEntry s d) e =
    ap (TermEntry AnyShape)
    (renamed_same SetSort (length base) to stays d (positions_of SetSort base [] d (entry_kinded base p (TermEntry s d) k e).1))
still_entry base to stays k p (TypeEntry s) e =
    ap TypeEntry
    (renamed_same ShapeSort (length base) to stays s (positions_of ShapeSort base [] s (entry_kinded base p (TypeEntry s) k e)))

-- a context stands in each context on top of it
pub embeds_deeper : (passed base : Context) → IsKindedContext base → Embeds base (passed ++ base) (λ p. p)
embeds_deeper passed base k = record {
  apart = λ p q h h' e. e;
  entries = λ p h.
      let there = lookup-within base p h in
      ap (option_map seen) (lookup-more passed base p there.0 there.1)
      ∙ ap Some (sym (still_entry base (λ q. q) (λ q l. refl) k p there.0 there.1))
      ∙ ap (option_map (λ b. renamed_entry (λ q. q) (seen b))) (sym there.1);
}

-- The positions of the base stay.
pub told_again : (base : Context) (test : Demand → Bool) → TestsAgain (length base) test → (passed : Context) (steps : ℕ)
    (l r : Shape) → IsWellFormedContext base → IsWellFormedShape base l → IsWellFormedShape base r
    → told test (comparison steps (passed ++ base) l r) ≡ told test (comparison steps base l r)
told_again base test alike passed steps l r formed left right =
    let kinded = IsKindedContext-from base formed in
    let still : (s : Shape) → IsWellFormedShape base s → renamed (λ p. p) s ≡ s =
    λ s h. renamed_same ShapeSort (length base) (λ p. p) (λ p l. refl) s (well_formed-positions_below ShapeSort base s h) in
    (λ i. told test (comparison steps (passed ++ base) (sym (still l left) i) (sym (still r right) i)))
    ∙ told_embedded base (passed ++ base) (λ p. p) kinded
    (λ p h s d is. older_members base kinded p s d (older_there p h s d is)) (embeds_deeper passed base kinded)
    (length base) (omega arith) (λ p l. refl) test alike steps l r (IsKinded-from (kinds_of base) [] l left) (IsKinded-from (kinds_of base) [] r right)
  where
    older_there : (p : ℕ) → p < length base → (s : Shape) (d : Set) → lookup (passed ++ base) p ≡ Some (TermEntry s d)
        → lookup base p ≡ Some (TermEntry s d)
    older_there p h s d is =
        let there = lookup-within base p h in
        there.1 ∙ sym (lookup-more passed base p there.0 there.1) ∙ is

pub compared_again : ComparedAgain
compared_again base passed steps l r = told_again base is_demand_settled (settled_again (length base)) passed steps l r

pub compared_embedded : ComparedEmbedded
compared_embedded small real to steps l r formed larger embeds left right =
    told_embedded small real to (IsKindedContext-from small formed)
    (λ p h. older_members real (IsKindedContext-from real larger) (to p)) embeds
    zero (omega arith) (λ p h. absurd (omega (arith, h))) is_demand_settled (settled_again zero) steps l r
    (IsKinded-from (kinds_of small) [] l left) (IsKinded-from (kinds_of small) [] r right)

pub settled_embedded : SettledEmbedded
settled_embedded small real to l r formed larger embeds left right =
    demand_embedded small real to (IsKindedContext-from small formed)
    (λ p h. older_members real (IsKindedContext-from real larger) (to p)) embeds l r
    (IsKindedSet-from (kinds_of small) [] l left) (IsKindedSet-from (kinds_of small) [] r right)
