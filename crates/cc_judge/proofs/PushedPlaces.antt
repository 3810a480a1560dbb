-- Places that are collected: of the texts that are no modules, and of names.
use Rattle.std.proofs.Common.{◌≡◌, ℕ, ◌+◌, ◌<◌, ◌≤◌, nat_eq, Bool, true, false, List, [], ◌∷◌, ◌++◌, length, get_or, map}
use Rattle.std.proofs.Common.{take, Option, Some, None, ap, ◌∙◌, sym, subst, refl, inl, inr, arith, append_assoc}
use Rattle.std.proofs.Common.{append-nil, eq-eqb}
use Rattle.std.proofs.lemmas.Bool.{cases_eq, cases_Bool, or_left, or_right}
use Rattle.std.proofs.lemmas.List.{map_push, take_more, take_all, length-map}
use Rattle.std.proofs.lemmas.Option.{slice_get-map, slice_get_read, slice_get_within, same_Some}
use Rattle.std.specs.List.{AllByRecursion, list_any, slice_get}
use Rattle.std.specs.Map.{keys_of}
use Rattle.std.specs.Option.{option_map}
use Rattle.std.specs.Str.{bytes_eq}
use Rattle.cc_grammar.specs.Syntax.{ImportSyntax}
use Rattle.cc_graph.specs.Graph.{ImportMap, IsOrder, is_present}
use Rattle.cc_graph.proofs.NameLemmas.{present_among}
use Rattle.cc_graph.proofs.OrderLaws.{orders_list_present_modules}
use Rattle.cc_graph.proofs.OrderLemmas.{listed_among}
use Rattle.cc_graph.proofs.Paths.{IsAmong}
use Rattle.cc_verdicts.specs.PresentTexts.{Texts, with_module, graph_of}
use Rattle.cc_verdicts.specs.Readings.{imports_of}
use Rattle.cc_judge.specs.Dependencies.{readings_of, IsUnread, with_unread, ListsUnread, PushesPlace, PushesNamed}
use Rattle.cc_judge.proofs.PlaceSchedules.{all_from_among}

any_appended : {A : Type 0} (test : A → Bool) (xs ys : List A) → list_any test xs ≡ true
    → list_any test (xs ++ ys) ≡ true
any_appended test [] ys h = cc
any_appended test (x ∷ xs) ys h =
    elim (cases_Bool (test x)) [
      | inl here ↦ or_left (test x) (list_any test (xs ++ ys)) here
      | inr other ↦ or_right (test x) (list_any test (xs ++ ys)) (any_appended test xs ys (rw other at h))
    ]

any_last : {A : Type 0} (test : A → Bool) (xs : List A) (x : A) → test x ≡ true → list_any test (xs ++ x ∷ []) ≡ true
any_last test [] x h = or_left (test x) false h
any_last test (y ∷ ys) x h = or_right (test y) (list_any test (ys ++ x ∷ [])) (any_last test ys x h)

all_pushed : {A : Type 0} (P : A → Type 0) (xs : List A) (x : A) → AllByRecursion P xs → P x
    → AllByRecursion P (xs ++ x ∷ [])
all_pushed P [] x all here = (here, tt)
all_pushed P (y ∷ ys) x all here = (all.0, all_pushed P ys x all.1 here)

all_front : {A : Type 0} (P : A → Type 0) (xs : List A) (x : A) → AllByRecursion P (xs ++ x ∷ []) → AllByRecursion P xs
all_front P [] x all = tt
all_front P (y ∷ ys) x all = (all.0, all_front P ys x all.1)

all_last : {A : Type 0} (P : A → Type 0) (xs : List A) (x : A) → AllByRecursion P (xs ++ x ∷ []) → P x
all_last P [] x all = all.0
all_last P (y ∷ ys) x all = all_last P ys x all.1

-- the places below one are those of the texts that are no modules
pub record UnreadTo (readings : List (List ℕ)) (upto : ℕ) (places : List ℕ) : Type 0 where
  pub are : AllByRecursion (IsUnread (readings_of readings)) places
  pub all : (place : ℕ) → place < upto → IsUnread (readings_of readings) place → list_any (nat_eq place) places ≡ true

pub unread_start : (readings : List (List ℕ)) (places : List ℕ) → places ≡ []
    → UnreadTo readings 0 places
unread_start readings places none =
    let P : List ℕ → Type 0 = λ ps. UnreadTo readings 0 ps in
    subst P (sym none) (record { are = tt; all = λ place below unread. absurd (omega arith) })

-- what stands at a place
reading_stands : (readings : List (List ℕ)) (i : ℕ) (reading : List ℕ)
    → i < length readings → reading ≡ get_or readings i reading
    → slice_get (readings_of readings) i ≡ Some (imports_of reading)
reading_stands readings i reading within is =
    slice_get-map imports_of readings i
    ∙ ap (option_map imports_of) (slice_get_read readings (length readings) i reading refl within is)

one_unread : (readings : List (List ℕ)) (i : ℕ) (places new : List ℕ)
    (reading : Option (List ImportSyntax)) → slice_get (readings_of readings) i ≡ Some reading
    → UnreadTo readings i places → new ≡ with_unread reading i places → UnreadTo readings (i + 1) new
one_unread readings i places new None stands so_far more =
    let P : List ℕ → Type 0 = λ ps. UnreadTo readings (i + 1) ps in
    subst P (sym more)
    (record {
      are = all_pushed (IsUnread (readings_of readings)) places i so_far.are stands;
      all = λ place below unread.
          elim (cases_eq place i) [
            | inl here ↦ any_last (nat_eq place) places i (eq-eqb place i here)
            | inr other ↦ any_appended (nat_eq place) places (i ∷ []) (so_far.all place (omega arith) unread)
          ];
    })
one_unread readings i places new (Some imports) stands so_far more =
    let P : List ℕ → Type 0 = λ ps. UnreadTo readings (i + 1) ps in
    subst P (sym more)
    (record {
      are = so_far.are;
      all = λ place below unread.
          elim (cases_eq place i) [
            | inl here ↦
                let Q : ℕ → Type 0 = λ p. IsUnread (readings_of readings) p in
                let clash : Some (Some imports) ≡ Some None = sym stands ∙ subst Q here unread in
                absurd (let inside : Some imports ≡ None = same_Some (Some imports) None clash in cc)
            | inr other ↦ so_far.all place (omega arith) unread
          ];
    })

pub unread_more : (readings : List (List ℕ)) (i : ℕ) (reading : List ℕ) (imports : Option (List ImportSyntax))
    (places new : List ℕ) → i < length readings → reading ≡ get_or readings i reading → imports ≡ imports_of reading
    → UnreadTo readings i places → new ≡ with_unread imports i places → UnreadTo readings (i + 1) new
unread_more readings i reading imports places new within is are so_far more =
    one_unread readings i places new imports (reading_stands readings i reading within is ∙ ap Some (sym are))
    so_far more

pub unread_end : (readings : List (List ℕ)) (i : ℕ) (places : List ℕ) → length readings ≤ i
    → UnreadTo readings i places → ListsUnread (readings_of readings) places
unread_end readings i places past so_far =
    record {
      are = so_far.are;
      all = λ place unread.
          let within : place < length (readings_of readings) =
          slice_get_within (readings_of readings) place None unread in
          so_far.all place (omega (arith, length-map readings imports_of)) unread;
    }

-- ---- places of names
pub named_start : (keys : List (List ℕ)) (places : List ℕ) → PushesNamed keys [] places places
named_start keys places among = ([], sym (append-nil places), refl)

pub named_more : (keys names : List (List ℕ)) (i : ℕ) (name : List ℕ) (old places new : List ℕ) → i < length names
    → name ≡ get_or names i name → PushesNamed keys (take i names) old places → PushesPlace keys name places new
    → PushesNamed keys (take (i + 1) names) old new
named_more keys names i name old places new within is so_far one among =
    let more : take (i + 1) names ≡ take i names ++ name ∷ [] =
    take_more names i name within ∙ ap (λ n. take i names ++ n ∷ []) (sym is) in
    let P : List (List ℕ) → Type 0 = λ ns. AllByRecursion (λ n. list_any (bytes_eq n) keys ≡ true) ns in
    let all = subst P more among in
    let (earlier, parts, named) = so_far (all_front (λ n. list_any (bytes_eq n) keys ≡ true) (take i names) name all) in
    let (place, stands, put) = one (all_last (λ n. list_any (bytes_eq n) keys ≡ true) (take i names) name all) in (
      earlier ++ place ∷ [],
      put ∙ ap (λ ps. ps ++ place ∷ []) parts ∙ append_assoc old earlier (place ∷ []),
      map_push (slice_get keys) earlier place
          ∙ ap (λ os. os ++ slice_get keys place ∷ []) named
          ∙ ap (λ o. map Some (take i names) ++ o ∷ []) stands
          ∙ sym (map_push Some (take i names) name) ∙ ap (map Some) (sym more),
    )

pub named_end : (keys names : List (List ℕ)) (i : ℕ) (old new : List ℕ) → length names ≤ i
    → PushesNamed keys (take i names) old new → PushesNamed keys names old new
named_end keys names i old new past so_far =
    let P : List (List ℕ) → Type 0 = λ ns. PushesNamed keys ns old new in subst P (take_all i names past) so_far

-- a module of the graph is a present text
keys_in : (at : List ℕ) (imports : Option (List ImportSyntax)) (graph : ImportMap) (texts : Texts) (text name : List ℕ)
    → ((n : List ℕ) → IsAmong n (keys_of graph) → IsAmong n (keys_of texts))
    → IsAmong name (keys_of (with_module at imports graph)) → IsAmong name (keys_of ((at, text) ∷ texts))
keys_in at None graph texts text name later among = inr (later name among)
keys_in at (Some imports) graph texts text name later (inl same) = inl same
keys_in at (Some imports) graph texts text name later (inr among) = inr (later name among)

graph_keys : (texts : Texts) (name : List ℕ) → IsAmong name (keys_of (graph_of texts)) → IsAmong name (keys_of texts)
unfolding graph_of
graph_keys [] name among = among
graph_keys (first ∷ rest) name among =
    keys_in first.0 (imports_of first.1) (graph_of rest) rest first.1 name (graph_keys rest) among

pub order_among_keys : (texts : Texts) (names : List (List ℕ)) → IsOrder (graph_of texts) names
    → AllByRecursion (λ name. list_any (bytes_eq name) (keys_of texts) ≡ true) names
order_among_keys texts names order =
    all_from_among (λ name. list_any (bytes_eq name) (keys_of texts) ≡ true) names
    (λ name among.
    let present : is_present (graph_of texts) name ≡ true =
    sym ((orders_list_present_modules (graph_of texts) names order).1 name) ∙ listed_among names name among in
    listed_among (keys_of texts) name (graph_keys texts name (present_among (graph_of texts) name present)))
