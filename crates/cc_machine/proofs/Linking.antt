-- The parts of a machine as they grow: nodes, cells and frames are added at the end of their lists.
use denote.Bor.{Bor}
use mathlib.Core.List.{reverse_aux}
use Rattle.std.proofs.Common.{◌≡◌, ℕ, zero, suc, ◌+◌, ◌<◌, ◌≤◌, ◌^◌, List, [], ◌∷◌, ◌++◌, map, reverse, length, Option, Some, None, option_map, refl, sym, ap, ◌∙◌, subst, arith}
use Rattle.std.specs.List.{slice_get}
use Rattle.std.proofs.lemmas.Grind.{reverse_onto}
use Rattle.std.proofs.lemmas.List.{map-append, reverse-append, length-reverse, length-append, append-nil}
use Rattle.cc_core.specs.declared.terms.Node.{Node}
use Rattle.cc_core.specs.Contexts.{lookup}
use Rattle.cc_core.specs.Stores.{ValueCell, Store}
use Rattle.cc_core.specs.TermViews.{term_of}
use Rattle.cc_core.proofs.Lookups.{length_map, lookup-newest, lookup-other, slice_get-last}
use Rattle.cc_core.proofs.IndexedLookups.{lookup-past}
use Rattle.cc_runs.specs.Machine.{LetFrame, configured}
use Rattle.cc_machine.specs.declared.links.Link.{Link}
use Rattle.cc_machine.specs.declared.parts.Cell.{Cell}
use Rattle.cc_machine.specs.declared.parts.Cell.TheVariants as cell_forms
use Rattle.cc_machine.specs.declared.parts.Frame.{Frame}
use Rattle.cc_machine.specs.declared.parts.Frame.TheVariants as frame_forms
use Rattle.cc_machine.specs.declared.parts.Focus.TheVariants as focuses
use Rattle.cc_machine.specs.Environments.{extended, link_position, link_before, follow}
use Rattle.cc_machine.specs.Parts.{cell_in, frame_in, store_of, stack_of, configuration_in, cell_environment, frame_environment, frame_begun, frame_wanted, AreLinked}
use Rattle.cc_machine.specs.Putting.{put_all, put_body}

-- what stands at an index of a list with one element more
pub slice_get-before : {A : Type 0} (xs : List A) (y : A) (i : ℕ) → i < length xs → slice_get (xs ++ y ∷ []) i ≡ slice_get xs i
slice_get-before [] y i h = absurd (omega arith)
slice_get-before (x ∷ xs) y zero h = refl
slice_get-before (x ∷ xs) y (suc i) h = slice_get-before xs y i (omega arith)

-- what holds at each index, and of the new element at its own, holds at each index of the longer list
pub every-push : {A : Type 0} (P : ℕ → Option A → Type 0) (xs : List A) (y : A) → ((i : ℕ) → P i None)
    → ((i : ℕ) → P i (slice_get xs i)) → P (length xs) (Some y) → (i : ℕ) → P i (slice_get (xs ++ y ∷ []) i)
every-push P [] y none h last zero = last
every-push P [] y none h last (suc i) = none (suc i)
every-push P (x ∷ xs) y none h last zero = h zero
every-push P (x ∷ xs) y none h last (suc i) =
    every-push (λ j. P (suc j)) xs y (λ j. none (suc j)) (λ j. h (suc j)) last i

-- and what holds at each index of the longer one holds at each of the shorter
pub every-front : {A : Type 0} (P : ℕ → Option A → Type 0) (xs : List A) (y : A) → ((i : ℕ) → P i None)
    → ((i : ℕ) → P i (slice_get (xs ++ y ∷ []) i)) → (i : ℕ) → P i (slice_get xs i)
every-front P [] y none h i = none i
every-front P (x ∷ xs) y none h zero = h zero
every-front P (x ∷ xs) y none h (suc i) = every-front (λ j. P (suc j)) xs y (λ j. none (suc j)) (λ j. h (suc j)) i

pub every-last : {A : Type 0} (P : ℕ → Option A → Type 0) (xs : List A) (y : A)
    → ((i : ℕ) → P i (slice_get (xs ++ y ∷ []) i)) → P (length xs) (Some y)
every-last P xs y h = subst (P (length xs)) (slice_get-last xs y) (h (length xs))

-- the environment of a number stays when a node is added
follow-same_at : (links : List Link) (l : Link) → ((at : ℕ) → link_before (slice_get links at) ≤ at) → (e i : ℕ)
    → e ≤ length links → follow (links ++ l ∷ []) e i ≡ follow links e i
follow-same_at links l older zero i h = refl
follow-same_at links l older (suc at) zero h = ap link_position (slice_get-before links l at (omega arith))
follow-same_at links l older (suc at) (suc i) h =
    let here = slice_get-before links l at (omega arith) in
    let below = older at in
    ap (λ o. follow (links ++ l ∷ []) (link_before o) i) here
    ∙ follow-same_at links l older (link_before (slice_get links at)) i (omega arith)

pub follow-same : (links : List Link) (l : Link) → ((at : ℕ) → link_before (slice_get links at) ≤ at) → (e : ℕ)
    → e ≤ length links → follow (links ++ l ∷ []) e ≡ follow links e
follow-same links l older e h = λ j i. follow-same_at links l older e i h j

-- and that of the new node is one binder longer
follow-newest_at : (links : List Link) (l : Link) → ((at : ℕ) → link_before (slice_get links at) ≤ at)
    → l.before ≤ length links → (i : ℕ)
    → follow (links ++ l ∷ []) (suc (length links)) i ≡ extended l.position (follow links l.before) i
follow-newest_at links l older h zero = ap link_position (slice_get-last links l)
follow-newest_at links l older h (suc i) =
    ap (λ o. follow (links ++ l ∷ []) (link_before o) i) (slice_get-last links l)
    ∙ follow-same_at links l older l.before i h

pub follow-newest : (links : List Link) (l : Link) → ((at : ℕ) → link_before (slice_get links at) ≤ at)
    → l.before ≤ length links → follow (links ++ l ∷ []) (suc (length links)) ≡ extended l.position (follow links l.before)
follow-newest links l older h = λ j i. follow-newest_at links l older h i j

-- cells, frames and the focus stay when a node is added
module _ (links : List Link) (l : Link) (older : (at : ℕ) → link_before (slice_get links at) ≤ at) where
  pub cell_in-more : (c : Cell) → cell_environment (Some c) ≤ length links → cell_in (links ++ l ∷ []) c ≡ cell_in links c
  cell_in-more (cell_forms.Code node e) h = ap (λ f. ValueCell (put_all f (term_of node.now))) (follow-same links l older e h)
  cell_in-more (cell_forms.Small small) h = refl
  cell_in-more (cell_forms.Device number base) h = refl
  cell_in-more (cell_forms.Label label) h = refl

  pub frame_in-more : (f : Frame) → frame_environment (Some f) ≤ length links → frame_in (links ++ l ∷ []) f ≡ frame_in links f
  frame_in-more (frame_forms.Body node e) h = ap (λ f. LetFrame (put_body f (term_of node.now))) (follow-same links l older e h)
  frame_in-more (frame_forms.Scope label) h = refl
  frame_in-more (frame_forms.Repeat function begun wanted) h = refl

  cells-more : (cs : List Cell) → ((at : ℕ) → cell_environment (slice_get cs at) ≤ length links)
      → map (cell_in (links ++ l ∷ [])) cs ≡ map (cell_in links) cs
  cells-more [] h = refl
  cells-more (c ∷ cs) h = λ j. cell_in-more c (h zero) j ∷ cells-more cs (λ at. h (suc at)) j

  frames-more : (fs : List Frame) → ((at : ℕ) → frame_environment (slice_get fs at) ≤ length links)
      → map (frame_in (links ++ l ∷ [])) fs ≡ map (frame_in links) fs
  frames-more [] h = refl
  frames-more (f ∷ fs) h = λ j. frame_in-more f (h zero) j ∷ frames-more fs (λ at. h (suc at)) j

  pub store-more : (base : Store) (cs : List Cell) → ((at : ℕ) → cell_environment (slice_get cs at) ≤ length links)
      → store_of base (links ++ l ∷ []) cs ≡ store_of base links cs
  store-more base cs h = ap (λ xs. reverse xs ++ base) (cells-more cs h)

  pub stack-more : (fs : List Frame) → ((at : ℕ) → frame_environment (slice_get fs at) ≤ length links)
      → stack_of (links ++ l ∷ []) fs ≡ stack_of links fs
  stack-more fs h = ap reverse (frames-more fs h)

-- what is added stands first in the store and on the stack
pub store-push : (base : Store) (links : List Link) (cs : List Cell) (c : Cell)
    → store_of base links (cs ++ c ∷ []) ≡ cell_in links c ∷ store_of base links cs
store-push base links cs c =
    ap (λ xs. xs ++ base)
    (ap reverse (map-append (cell_in links) cs (c ∷ [])) ∙ reverse-append (map (cell_in links) cs) (cell_in links c ∷ []))

pub stack-push : (links : List Link) (fs : List Frame) (f : Frame) → stack_of links (fs ++ f ∷ []) ≡ frame_in links f ∷ stack_of links fs
stack-push links fs f =
    ap reverse (map-append (frame_in links) fs (f ∷ [])) ∙ reverse-append (map (frame_in links) fs) (frame_in links f ∷ [])

pub length-store : (base : Store) (links : List Link) (cs : List Cell) → length (store_of base links cs) ≡ length base + length cs
length-store base links cs =
    omega (arith, length-append (reverse (map (cell_in links) cs)) base, length-reverse (map (cell_in links) cs), length_map (cell_in links) cs)

-- a position counts from the oldest on
lookup-older_part : {A : Type 0} (xs acc : List A) (p : ℕ) → p < length acc → lookup (reverse_aux xs acc) p ≡ lookup acc p
lookup-older_part [] acc p h = refl
lookup-older_part (x ∷ xs) acc p h =
    lookup-older_part xs (x ∷ acc) p (omega arith) ∙ lookup-other x acc p (λ e. omega arith)

lookup-newer_part : {A : Type 0} (xs acc : List A) (k p : ℕ) → p ≡ length acc + k → lookup (reverse_aux xs acc) p ≡ slice_get xs k
lookup-newer_part [] acc k p e = lookup-past acc p (omega arith)
lookup-newer_part (x ∷ xs) acc zero p e =
    let at : p ≡ length acc = omega arith in
    lookup-older_part xs (x ∷ acc) p (omega arith) ∙ ap (lookup (x ∷ acc)) at ∙ lookup-newest x acc
lookup-newer_part (x ∷ xs) acc (suc k) p e = lookup-newer_part xs (x ∷ acc) k p (omega arith)

pub lookup-reverse : {A : Type 0} (xs : List A) (p : ℕ) → lookup (reverse xs) p ≡ slice_get xs p
lookup-reverse xs p = lookup-newer_part xs [] p p (omega arith)

pub slice_get-map : {A B : Type 0} (f : A → B) (xs : List A) (i : ℕ) → slice_get (map f xs) i ≡ option_map f (slice_get xs i)
slice_get-map f [] i = refl
slice_get-map f (x ∷ xs) zero = refl
slice_get-map f (x ∷ xs) (suc i) = slice_get-map f xs i

-- a position of the program is that of its own cell, and each other one counts from there
reversed_onto : {A : Type 0} (xs ys : List A) → reverse xs ++ ys ≡ reverse_aux xs ys
reversed_onto xs [] = append-nil (reverse xs)
reversed_onto xs (y ∷ ys) = sym (reverse_onto xs y ys)

pub lookup-loaded : (base : Store) (links : List Link) (cs : List Cell) (p : ℕ) → p < length base
    → lookup (store_of base links cs) p ≡ lookup base p
lookup-loaded base links cs p h =
    ap (λ st. lookup st p) (reversed_onto (map (cell_in links) cs) base) ∙ lookup-older_part (map (cell_in links) cs) base p h

pub lookup-own : (base : Store) (links : List Link) (cs : List Cell) (p k : ℕ) → p ≡ length base + k
    → lookup (store_of base links cs) p ≡ option_map (cell_in links) (slice_get cs k)
lookup-own base links cs p k e =
    ap (λ st. lookup st p) (reversed_onto (map (cell_in links) cs) base) ∙ lookup-newer_part (map (cell_in links) cs) base k p e
    ∙ slice_get-map (cell_in links) cs k

-- longer lists are linked too
module _ (links : List Link) (cs : List Cell) (fs : List Frame) (made : ℕ) (linked : AreLinked links cs fs made) where
  pub linked_node : (l : Link) → l.before ≤ length links → AreLinked (links ++ l ∷ []) cs fs made
  linked_node l h =
      let more = length-append links (l ∷ []) in
      record {
        older = every-push (λ at o. link_before o ≤ at) links l (λ at. omega arith) linked.older h;
        cells = λ at. let below = linked.cells at in omega (arith, more);
        frames = λ at. let below = linked.frames at in omega (arith, more);
        begun = linked.begun;
        wanted = linked.wanted;
        labels = linked.labels;
      }

  pub linked_cell : (c : Cell) → cell_environment (Some c) ≤ length links → AreLinked links (cs ++ c ∷ []) fs made
  linked_cell c h =
      let more = length-append cs (c ∷ []) in
      record {
        older = linked.older;
        cells = every-push (λ at o. cell_environment o ≤ length links) cs c (λ at. omega arith) linked.cells h;
        frames = linked.frames;
        begun = linked.begun;
        wanted = linked.wanted;
        labels = let few = linked.labels in omega (arith, more);
      }

  pub linked_label : (c : Cell) → cell_environment (Some c) ≤ length links → AreLinked links (cs ++ c ∷ []) fs (suc made)
  linked_label c h =
      let more = length-append cs (c ∷ []) in
      record {
        older = linked.older;
        cells = every-push (λ at o. cell_environment o ≤ length links) cs c (λ at. omega arith) linked.cells h;
        frames = linked.frames;
        begun = linked.begun;
        wanted = linked.wanted;
        labels = let few = linked.labels in omega (arith, more);
      }

  pub linked_frame : (f : Frame) → frame_environment (Some f) ≤ length links → frame_begun (Some f) ≤ frame_wanted (Some f)
      → frame_wanted (Some f) < 2 ^ 63 → AreLinked links cs (fs ++ f ∷ []) made
  linked_frame f h b w = record {
    older = linked.older;
    cells = linked.cells;
    frames = every-push (λ at o. frame_environment o ≤ length links) fs f (λ at. omega arith) linked.frames h;
    begun = every-push (λ at o. frame_begun o ≤ frame_wanted o) fs f (λ at. omega arith) linked.begun b;
    wanted = every-push (λ at o. frame_wanted o < 2 ^ 63) fs f (λ at. omega arith) linked.wanted w;
    labels = linked.labels;
  }

-- and so are those without their top frame
pub linked_front : (links : List Link) (cs : List Cell) (fs : List Frame) (made : ℕ) (f : Frame)
    → AreLinked links cs (fs ++ f ∷ []) made → AreLinked links cs fs made
linked_front links cs fs made f linked = record {
  older = linked.older;
  cells = linked.cells;
  frames = every-front (λ at o. frame_environment o ≤ length links) fs f (λ at. omega arith) linked.frames;
  begun = every-front (λ at o. frame_begun o ≤ frame_wanted o) fs f (λ at. omega arith) linked.begun;
  wanted = every-front (λ at o. frame_wanted o < 2 ^ 63) fs f (λ at. omega arith) linked.wanted;
  labels = linked.labels;
}

-- what holds of the top frame
pub record IsLinkedFrame (links : List Link) (f : Frame) : Type 0 where
  pub within : frame_environment (Some f) ≤ length links
  pub begun : frame_begun (Some f) ≤ frame_wanted (Some f)
  pub wanted : frame_wanted (Some f) < 2 ^ 63

pub linked_top : (links : List Link) (cs : List Cell) (fs : List Frame) (made : ℕ) (f : Frame)
    → AreLinked links cs (fs ++ f ∷ []) made → IsLinkedFrame links f
linked_top links cs fs made f linked = record {
  within = every-last (λ at o. frame_environment o ≤ length links) fs f linked.frames;
  begun = every-last (λ at o. frame_begun o ≤ frame_wanted o) fs f linked.begun;
  wanted = every-last (λ at o. frame_wanted o < 2 ^ 63) fs f linked.wanted;
}

-- a body in a new node's environment
pub entered : (base : Store) (links : List Link) (cs : List Cell) (fs : List Frame) (made : ℕ) → AreLinked links cs fs made
    → (l : Link) → l.before ≤ length links → (body : Bor Node)
    → configuration_in base (links ++ l ∷ []) cs fs made (focuses.Code body (suc (length links)))
    ≡ configured (store_of base links cs) (stack_of links fs) made (put_all (extended l.position (follow links l.before)) (term_of body.now))
entered base links cs fs made linked l h body = λ j.
    configured (store-more links l linked.older base cs linked.cells j) (stack-more links l linked.older fs linked.frames j) made
    (put_all (follow-newest links l linked.older h j) (term_of body.now))
