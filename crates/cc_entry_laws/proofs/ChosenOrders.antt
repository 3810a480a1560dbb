-- An order of the graph, and what is chosen of it.
use Rattle.std.proofs.Common.{◌≡◌, ℕ, Bool, true, false, not, ◌&&◌, List, [], ◌∷◌, reverse, if◌then◌else◌, ap, ◌∙◌}
use Rattle.std.proofs.Common.{sym, subst, refl, inl, inr}
use Rattle.std.proofs.lemmas.Bool.{cases_Bool, and_parts, and_from, not-true, not_from_false, or_parts, false_from_ne_true}
use Rattle.std.specs.List.{filter}
use Rattle.std.specs.Map.{keys_of}
use Rattle.std.specs.Ordering.{is_eq, is_lt, ordering_reverse}
use Rattle.std.specs.Str.{bytes_eq}
use Rattle.std.specs.declared.cmp.Ordering.{Ordering}
use Rattle.std.specs.declared.cmp.Ordering.TheVariants.{Less, Equal, Greater}
use Rattle.cc_base.specs.NameTexts.{bytes_eq-order}
use Rattle.cc_graph.specs.Graph.{ImportMap, imported, is_present, does_import, reaches, is_listed}
use Rattle.cc_base.specs.Names.{compare_names, is_name_before}
use Rattle.cc_graph.specs.Graph.{holds_up, is_ready, may_come, is_next, are_in_order, IsOrder, more_steps}
use Rattle.cc_graph.proofs.NameLemmas.{names_total, same_name, is_same_name, present_among}
use Rattle.cc_graph.proofs.OrderLemmas.{clash, list_all_at, list_all_each, listed_among, among_listed}
use Rattle.cc_graph.proofs.Paths.{IsAmong, reaches-path}
use Rattle.cc_entry_laws.specs.LinkOrders.{has_imports_listed, are_linked_in_order, AreClosed}

among_filter : (chosen : List ℕ → Bool) (xs : List (List ℕ)) (x : List ℕ) → IsAmong x xs → chosen x ≡ true
    → IsAmong x (filter chosen xs)
among_filter chosen [] x among is = absurd among
among_filter chosen (y ∷ ys) x (inl same) is = rw (ap chosen same ∙ is) (inl same)
among_filter chosen (y ∷ ys) x (inr among) is =
    elim (cases_Bool (chosen y)) [
      | inl kept ↦ rw kept (inr (among_filter chosen ys x among is))
      | inr gone ↦ rw gone (among_filter chosen ys x among is)
    ]

among_unfiltered : (chosen : List ℕ → Bool) (xs : List (List ℕ)) (x : List ℕ) → IsAmong x (filter chosen xs)
    → IsAmong x xs
among_unfiltered chosen [] x among = among
among_unfiltered chosen (y ∷ ys) x among =
    elim (cases_Bool (chosen y)) [
      | inl kept ↦
          (let here = rw kept at among in
          elim here [
            | inl same ↦ inl same
            | inr later ↦ inr (among_unfiltered chosen ys x later)
          ])
      | inr gone ↦ inr (among_unfiltered chosen ys x (rw gone at among))
    ]

-- of two names that differ the first comes before, where the second does not
before_other : (a b : List ℕ) (answer : Ordering) → compare_names a b ≡ answer → bytes_eq b a ≡ false
    → is_name_before b a ≡ false → is_name_before a b ≡ true
before_other a b Less is apart after = ap is_lt is
before_other a b Equal is apart after =
    clash (bytes_eq b a)
    (is_same_name b a (sym (same_name a b (bytes_eq-order a b ∙ ap is_eq is)))) apart
before_other a b Greater is apart after =
    clash (is_name_before b a) (ap is_lt (names_total.antisymm b a ∙ ap ordering_reverse is)) after

module _ (imports : ImportMap) (chosen : List ℕ → Bool) (closed : AreClosed imports chosen) where
  import_among : (name other : List ℕ) → IsAmong other (imported imports name) → does_import imports name other ≡ true
  unfolding does_import
  import_among name other among = listed_among (imported imports name) other among

  -- what a chosen module imports does not reach back
  no_way_back : (name other : List ℕ) → chosen name ≡ true → does_import imports name other ≡ true
      → reaches imports other name ≡ false
  no_way_back name other is imported_by =
      false_from_ne_true (reaches imports other name)
      (λ reached. closed.no_cycle name is (more_steps imported_by (reaches-path imports other name reached)))

  ready_listed : (older : List (List ℕ)) (name other : List ℕ) → is_ready imports older name ≡ true
      → IsAmong other (imported imports name) → is_present imports other ≡ true
      → reaches imports other name ≡ false → is_listed older other ≡ true
  unfolding is_ready
  ready_listed older name other ready among present away =
      let free : not (holds_up imports older name other) ≡ true =
      list_all_at (λ x. not (holds_up imports older name x)) (imported imports name) other among ready in
      elim (cases_Bool (is_listed older other)) [
        | inl is ↦ is
        | inr waits ↦
            clash (holds_up imports older name other)
            (and_from _ _ present (and_from _ _ (not_from_false _ waits) (not_from_false _ away)))
            (not-true _ free)
      ]

  -- all that a chosen module imports is listed, where it is ready
  imports_listed : (older : List (List ℕ)) (name : List ℕ) → chosen name ≡ true → is_ready imports older name ≡ true
      → has_imports_listed imports (filter chosen older) name ≡ true
  imports_listed older name is ready =
      list_all_each (is_listed (filter chosen older)) (imported imports name)
      (λ other among.
      let by = import_among name other among in
      let listed = ready_listed older name other ready among (closed.imports_present name other is by) (no_way_back name
      other is by) in
      listed_among (filter chosen older) other
      (among_filter chosen older other (among_listed older other listed) (closed.imports_chosen name other is by)))

  -- and the other way
  listed_ready : (older : List (List ℕ)) (name : List ℕ) → has_imports_listed imports (filter chosen older) name ≡ true
      → is_ready imports older name ≡ true
  unfolding is_ready
  listed_ready older name all =
      list_all_each (λ other. not (holds_up imports older name other)) (imported imports name)
      (λ other among.
      let in_filter = list_all_at (is_listed (filter chosen older)) (imported imports name) other among all in
      let listed : is_listed older other ≡ true =
      listed_among older other (among_unfiltered chosen older other (among_listed (filter chosen older) other
      in_filter)) in
      elim (cases_Bool (holds_up imports older name other)) [
        | inr free ↦ not_from_false _ free
        | inl holds ↦
            let rest = and_parts _ _ (and_parts _ _ holds).1 in
            clash (is_listed older other) listed (not-true _ rest.0)
      ])

  -- a module that waits: it is chosen, present, and not listed
  abbrev Waits : List (List ℕ) → List ℕ → Type 0
  Waits listed name = (chosen name ≡ true) × (is_present imports name ≡ true) × (is_listed listed name ≡ false)

  first_of_waiting : (older : List (List ℕ)) (newest other : List ℕ) → is_next imports older newest ≡ true
      → Waits (newest ∷ older) other
      → (if has_imports_listed imports (filter chosen older) other then is_name_before newest other else true) ≡ true
  first_of_waiting older newest other next waits =
      let apart = or_parts (bytes_eq other newest) (is_listed older other) waits.2 in
      elim (cases_Bool (has_imports_listed imports (filter chosen older) other)) [
        | inr not_ready ↦ rw not_ready refl
        | inl ready ↦
            let chosen_next = and_parts _ _ (and_parts _ _ next).1 in
            let free : not (may_come imports older other && is_name_before other newest) ≡ true =
            list_all_at (λ x. not (may_come imports older x && is_name_before x newest)) (keys_of imports) other
            (present_among imports other waits.1) chosen_next.1 in
            let comes : may_come imports older other ≡ true =
            and_from _ _ (not_from_false _ apart.1) (listed_ready older other ready) in
            let after : is_name_before other newest ≡ false =
            false_from_ne_true (is_name_before other newest)
            (λ before.
            clash (may_come imports older other && is_name_before other newest) (and_from _ _ comes before)
            (not-true _ free)) in
            rw ready (before_other newest other (compare_names newest other) refl apart.0 after)
      ]

  still_wait : (older : List (List ℕ)) (newest : List ℕ) (waiting : List (List ℕ)) → chosen newest ≡ true
      → is_present imports newest ≡ true → is_listed older newest ≡ false
      → ((name : List ℕ) → IsAmong name waiting → Waits (newest ∷ older) name)
      → (name : List ℕ) → IsAmong name (newest ∷ waiting) → Waits older name
  still_wait older newest waiting is present free wait name (inl same) =
      let P : List ℕ → Type 0 = λ n. Waits older n in subst P same (is, present, free)
  still_wait older newest waiting is present free wait name (inr among) =
      let w = wait name among in (w.0, w.1, (or_parts (bytes_eq name newest) (is_listed older name) w.2).1)

  linked : (turned : List (List ℕ)) → are_in_order imports turned ≡ true → (waiting : List (List ℕ))
      → ((name : List ℕ) → IsAmong name waiting → Waits turned name)
      → are_linked_in_order imports waiting (filter chosen turned) ≡ true
  linked [] ordered waiting wait = refl
  linked (newest ∷ older) ordered waiting wait =
      let parts = and_parts (is_next imports older newest) (are_in_order imports older) ordered in
      elim (cases_Bool (chosen newest)) [
        | inr gone ↦
            rw gone
            (linked older parts.1 waiting
            (λ name among.
            let w = wait name among in
            (w.0, w.1, (or_parts (bytes_eq name newest) (is_listed older name) w.2).1)))
        | inl kept ↦
            let comes = and_parts _ _ (and_parts _ _ (and_parts _ _ parts.0).1).0 in
            rw kept
            (and_from _ _ (imports_listed older newest kept comes.1)
            (and_from _ _
            (list_all_each (λ other. if has_imports_listed imports (filter chosen older) other
            then is_name_before newest other else true) waiting
            (λ other among. first_of_waiting older newest other parts.0 (wait other among)))
            (linked older parts.1 (newest ∷ waiting) (still_wait older newest waiting kept (and_parts _ _ parts.0).0
            (not-true _ comes.0) wait))))
      ]

pub chosen_order : (imports : ImportMap) (names : List (List ℕ)) (chosen : List ℕ → Bool) → IsOrder imports names
    → AreClosed imports chosen → are_linked_in_order imports [] (filter chosen (reverse names)) ≡ true
chosen_order imports names chosen order closed =
    linked imports chosen closed (reverse names) order.steps [] (λ name among. absurd among)
