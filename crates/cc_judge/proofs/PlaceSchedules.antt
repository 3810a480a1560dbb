-- The program's schedule of places: what is asked for a module stands before it, and each place is there.
use Rattle.std.proofs.Common.{◌≡◌, ℕ, ◌+◌, ◌<◌, nat_eq, true, false, List, [], ◌∷◌, ◌++◌, length, get_or, map, take}
use Rattle.std.proofs.Common.{drop, reverse, Option, Some, None, ap, ◌∙◌, sym, subst, refl, inl, inr, arith, eqb-true}
use Rattle.std.proofs.Common.{append_assoc}
use Rattle.std.proofs.lemmas.Bool.{cases_Bool}
use Rattle.std.proofs.lemmas.List.{map-append, reverse-append, take-append-drop, length-map}
use Rattle.std.proofs.lemmas.Option.{slice_get-map, slice_get-get_or, slice_get_within, same_Some}
use Rattle.std.specs.List.{AllByRecursion, list_any, slice_get}
use Rattle.std.specs.Map.{keys_of}
use Rattle.std.specs.Option.{option_map, unwrap_or, is_some}
use Rattle.cc_graph.specs.Graph.{reaches}
use Rattle.cc_graph.proofs.OrderLemmas.{among_listed, listed_among, listed-reverse}
use Rattle.cc_graph.proofs.Paths.{IsAmong}
use Rattle.cc_verdicts.specs.PresentTexts.{Texts, ArePresent, text_of, graph_of}
use Rattle.cc_verdicts.specs.Readings.{imports_of}
use Rattle.cc_verdicts.proofs.Asking.{Asks, asks_source, some_of}
use Rattle.cc_verdicts.proofs.Schedules as modules
use Rattle.cc_verdicts.proofs.Schedules.{does_parse, AreUnparsed, order_scheduled, order_whole, schedule_at, among_map}
use Rattle.cc_judge.specs.Dependencies.{IsUnread, ListsUnread, ArePlacesOf, IsSchedule}
use Rattle.cc_judge.specs.Places.{name_at, text_at}
use Rattle.cc_judge.specs.Plans.{IsPlanned, AsksPlanned}
use Rattle.cc_judge.specs.declared.plans.Plan.{Plan}
use Rattle.cc_judge.proofs.Lists.{drop_read}
use Rattle.cc_judge.proofs.TextPlaces.{text_of_place, one_place, place_of_name, place_of_key}

pub among_number : (xs : List ℕ) (n : ℕ) → list_any (nat_eq n) xs ≡ true → IsAmong n xs
among_number [] n h = cc
among_number (x ∷ xs) n h =
    elim (cases_Bool (nat_eq n x)) [
      | inl same ↦ inl (sym (eqb-true n x same))
      | inr other ↦ inr (among_number xs n (rw other at h))
    ]

pub among_unmapped : {A B : Type 0} (f : A → B) (y : B) (xs : List A) → IsAmong y (map f xs)
    → (x : A) × IsAmong x xs × (f x ≡ y)
among_unmapped f y [] among = absurd among
among_unmapped f y (x ∷ xs) (inl same) = (x, inl refl, same)
among_unmapped f y (x ∷ xs) (inr among) =
    let (z, later, same) = among_unmapped f y xs among in (z, inr later, same)

pub all_at_among : {A : Type 0} (P : A → Type 0) (xs : List A) (x : A) → AllByRecursion P xs → IsAmong x xs → P x
all_at_among P [] x all among = absurd among
all_at_among P (y ∷ xs) x all (inl same) = subst P same all.0
all_at_among P (y ∷ xs) x all (inr among) = all_at_among P xs x all.1 among

pub all_from_among : {A : Type 0} (P : A → Type 0) (xs : List A) → ((x : A) → IsAmong x xs → P x) → AllByRecursion P xs
all_from_among P [] each = tt
all_from_among P (x ∷ xs) each = (each x (inl refl), all_from_among P xs (λ y among. each y (inr among)))

all_appended : {A : Type 0} (P : A → Type 0) (xs ys : List A) → AllByRecursion P xs → AllByRecursion P ys
    → AllByRecursion P (xs ++ ys)
all_appended P [] ys left right = right
all_appended P (x ∷ xs) ys left right = (left.0, all_appended P xs ys left.1 right)

among_turned : (names : List (List ℕ)) (name : List ℕ) → IsAmong name names → IsAmong name (reverse names)
among_turned names name among = among_listed (reverse names) name (listed-reverse names name
    ∙ listed_among names name among)

among_turned_back : (names : List (List ℕ)) (name : List ℕ) → IsAmong name (reverse names) → IsAmong name names
among_turned_back names name among = among_listed names name (sym (listed-reverse names name)
    ∙ listed_among (reverse names) name among)

-- the names at the places are these, and the places are those of texts
named_places : (texts : Texts) (names : List (List ℕ)) (places : List ℕ) → ArePlacesOf (keys_of texts) names places
    → (map (name_at texts) places ≡ names) × AllByRecursion (λ place. place < length texts) places
named_places texts [] [] named = (refl, tt)
named_places texts (name ∷ names) [] named = cc
named_places texts [] (place ∷ places) named = cc
named_places texts (name ∷ names) (place ∷ places) named =
    let here : slice_get (keys_of texts) place ≡ Some name = cc in
    let later : map (slice_get (keys_of texts)) places ≡ map Some names = cc in
    let first = place_of_key texts place name here in
    let rest = named_places texts names places later in (
      ap (λ n. n ∷ map (name_at texts) places) first.1 ∙ ap (λ ns. name ∷ ns) rest.0,
      (first.0, rest.1),
    )

-- at the place of a text that is no module there are no imports
unread_text : (texts : Texts) (place : ℕ) → IsUnread (map (λ one. imports_of one.1) texts) place
    → (place < length texts) × (imports_of (text_at texts place) ≡ None)
unread_text texts place unread =
    let within : place < length (map (λ one. imports_of one.1) texts) =
    slice_get_within (map (λ one. imports_of one.1) texts) place None unread in
    let inside : place < length texts = omega (arith, length-map texts (λ one. imports_of one.1)) in (
      inside,
      same_Some (imports_of (text_at texts place)) None
          (ap (option_map (λ one. imports_of one.1)) (sym (slice_get-get_or texts place ([], []) inside))
          ∙ sym (slice_get-map (λ one. imports_of one.1) texts place) ∙ unread),
    )

none_of : {A : Type 0} (o : Option A) → is_some o ≡ false → o ≡ None
none_of None h = refl
none_of (Some x) h = cc

unread_place : (texts : Texts) (place : ℕ) → place < length texts → imports_of (text_at texts place) ≡ None
    → IsUnread (map (λ one. imports_of one.1) texts) place
unread_place texts place within none =
    slice_get-map (λ one. imports_of one.1) texts place
    ∙ ap (option_map (λ one. imports_of one.1)) (slice_get-get_or texts place ([], []) within)
    ∙ ap Some none

-- the texts that are no modules, by their names
unread_unparsed : (texts : Texts) → ArePresent texts → (unread : List ℕ)
    → ListsUnread (map (λ one. imports_of one.1) texts) unread
    → AreUnparsed texts (reverse (map (name_at texts) unread))
unread_unparsed texts sorted unread lists =
    record {
      silent = λ name among.
          let (place, at, same) = among_unmapped (name_at texts) name unread
          (among_turned_back (map (name_at texts) unread) name among) in
          let (within, none) = unread_text texts place
          (all_at_among (IsUnread (map (λ one. imports_of one.1) texts)) unread place lists.are at) in
          let P : List ℕ → Type 0 = λ x. does_parse texts x ≡ false in
          subst P same
          (ap (λ o. is_some (imports_of (unwrap_or o []))) (text_of_place texts sorted place within)
          ∙ ap is_some none);
      whole = λ name present not_parsed.
          let (text, is_text) = some_of (text_of texts name) present in
          let (place, within, same, is) = place_of_name texts name text is_text in
          let none : imports_of (text_at texts place) ≡ None =
          none_of (imports_of (text_at texts place))
          (ap (λ t. is_some (imports_of t)) is
          ∙ sym (ap (λ o. is_some (imports_of (unwrap_or o []))) is_text) ∙ not_parsed) in
          let P : List ℕ → Type 0 = λ x. IsAmong x (reverse (map (name_at texts) unread)) in
          subst P same
          (among_turned (map (name_at texts) unread) (name_at texts place)
          (among_map (name_at texts) place unread
          (among_number unread place (lists.all place (unread_place texts place within none)))));
    }

module _ (texts : Texts) (sorted : ArePresent texts) (places : List ℕ) (schedule : IsSchedule texts places) where
  names_split : reverse (map (name_at texts) places) ≡ reverse schedule.names
      ++ reverse (map (name_at texts) schedule.unread)
  names_split =
      ap (λ ps. reverse (map (name_at texts) ps)) schedule.parts
      ∙ ap reverse (map-append (name_at texts) schedule.unread schedule.ordered)
      ∙ reverse-append (map (name_at texts) schedule.unread) (map (name_at texts) schedule.ordered)
      ∙ ap (λ ns. reverse ns ++ reverse (map (name_at texts) schedule.unread)) (named_places texts schedule.names
      schedule.ordered schedule.named).0

  pub turned_schedule : modules.IsSchedule texts (reverse (map (name_at texts) places))
  turned_schedule =
      let P : List (List ℕ) → Type 0 = λ ns. modules.IsSchedule texts ns in
      subst P (sym names_split)
      (order_scheduled texts schedule.names (reverse (map (name_at texts) schedule.unread)) schedule.order
      (unread_unparsed texts sorted schedule.unread schedule.lists))

  all_unread : AllByRecursion (λ place. place < length texts) schedule.unread
  all_unread =
      all_from_among (λ place. place < length texts) schedule.unread
      (λ place among.
      (unread_text texts place
      (all_at_among (IsUnread (map (λ one. imports_of one.1) texts)) schedule.unread place schedule.lists.are among)).0)

  pub scheduled_within : AllByRecursion (λ place. place < length texts) places
  scheduled_within =
      let P : List ℕ → Type 0 = λ ps. AllByRecursion (λ place. place < length texts) ps in
      subst P (sym schedule.parts)
      (all_appended (λ place. place < length texts) schedule.unread schedule.ordered all_unread (named_places texts
      schedule.names schedule.ordered schedule.named).1)

  -- each place is in it
  pub scheduled_whole : (place : ℕ) → place < length texts → IsAmong place places
  scheduled_whole place within =
      let present : is_some (text_of texts (name_at texts place)) ≡ true =
      ap is_some (text_of_place texts sorted place within) in
      let P : List (List ℕ) → Type 0 = λ ns. IsAmong (name_at texts place) ns in
      let listed : IsAmong (name_at texts place) (reverse (map (name_at texts) places)) =
      subst P (sym names_split)
      (order_whole texts schedule.names (reverse (map (name_at texts) schedule.unread)) schedule.order
      (unread_unparsed texts sorted schedule.unread schedule.lists) (name_at texts place) present) in
      let (other, among, same) = among_unmapped (name_at texts) (name_at texts place) places
      (among_turned_back (map (name_at texts) places) (name_at texts place) listed) in
      let Q : ℕ → Type 0 = λ p. IsAmong p places in
      subst Q
      (one_place texts sorted other place (all_at_among (λ p. p < length texts) places other scheduled_within among)
      within same)
      among

  -- what the module at a place asks stands before it
  asked_place : (i place : ℕ) → i < length places → place ≡ get_or places i place → (other : List ℕ)
      → Asks texts (name_at texts place) other
      → (earlier : ℕ) × IsAmong earlier (take i places) × (name_at texts earlier ≡ other)
  asked_place i place within is other asks =
      let before : List (List ℕ) = map (name_at texts) (take i places) in
      let after : List (List ℕ) = map (name_at texts) (drop (i + 1) places) in
      let cut : map (name_at texts) places ≡ before ++ name_at texts place ∷ after =
      ap (map (name_at texts)) (sym (take-append-drop i places) ∙ ap (λ ps. take i places ++ ps)
      (drop_read places i place within is))
      ∙ map-append (name_at texts) (take i places) (place ∷ drop (i + 1) places) in
      let turned : reverse (map (name_at texts) places) ≡ reverse after ++ name_at texts place ∷ reverse before =
      ap reverse cut ∙ reverse-append before (name_at texts place ∷ after)
      ∙ ap (λ r. r ++ reverse before) (reverse-append (name_at texts place ∷ []) after)
      ∙ append_assoc (reverse after) (name_at texts place ∷ []) (reverse before) in
      let P : List (List ℕ) → Type 0 = λ ns. modules.IsSchedule texts ns in
      let listed = schedule_at texts (reverse after) (name_at texts place) (reverse before) (subst P turned
      turned_schedule) other asks in
      among_unmapped (name_at texts) other (take i places) (among_turned_back before other listed)

  among_taken : (i : ℕ) (place : ℕ) → IsAmong place (take i places) → place < length texts
  among_taken i place among =
      let P : List ℕ → Type 0 = λ ps. IsAmong place ps in
      all_at_among (λ p. p < length texts) places place scheduled_within
      (subst P (take-append-drop i places) (modules.among_left place (take i places) (drop i places) among))

  -- where all earlier places are planned, what is asked for a place is
  pub asks_planned : (plans : List (Option Plan)) (i place : ℕ) → i < length places → place ≡ get_or places i place
      → place < length texts
      → ((earlier : ℕ) → IsAmong earlier (take i places) → IsPlanned plans earlier) → AsksPlanned texts plans place
  asks_planned plans i place within is inside planned =
      all_from_among
      (λ one. (other : ℕ) → other < length texts → name_at texts other ≡ one.source
      → reaches (graph_of texts) one.source (name_at texts place) ≡ false → IsPlanned plans other)
      (unwrap_or (imports_of (text_at texts place)) [])
      (λ one among other below same ahead.
      let R : List ℕ → Type 0 = λ x. is_some (text_of texts x) ≡ true in
      let present : is_some (text_of texts one.source) ≡ true =
      subst R same (ap is_some (text_of_place texts sorted other below)) in
      let (earlier, taken, named) = asked_place i place within is one.source
      (asks_source texts (name_at texts place) (text_at texts place) (text_of_place texts sorted place inside) one among
      present ahead) in
      let P : ℕ → Type 0 = λ p. IsPlanned plans p in
      subst P (one_place texts sorted earlier other (among_taken i earlier taken) below (named ∙ sym same))
      (planned earlier taken))
