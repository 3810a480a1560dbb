-- How far reading has come, and each step of it.
use Rattle.std.proofs.Common.{◌≡◌, ℕ, suc, ◌+◌, ◌<◌, ◌≤◌, List, [], ◌∷◌, ◌++◌, ◌-◌, take, map, length, bytes_eq, cond, refl, sym, ap, subst, ◌∙◌, arith, append_assoc}
use Rattle.std.specs.List.{AllByRecursion, IsDistinct}
use Rattle.indexmap.specs.IndexSet.{insert_key}
use Rattle.std.proofs.lemmas.List.{length-append, append-nil}
use Rattle.cc_base.specs.Names.{IsName}
use Rattle.cc_core.specs.declared.types.Ty.{Ty}
use Rattle.cc_core.specs.Contexts.{Context, entry_of}
use Rattle.cc_core.specs.TermViews.{type_of, term_of}
use Rattle.cc_certificate_text.specs.Certificates.{Line, Opens, Binds, States, Start, Binding, Proving, line_text, IsCertificate, IsBadLine}
use Rattle.cc_certificate_text.specs.Reading.{Got, Wrong}
use Rattle.cc_certificate_text.specs.LineReading.{next_line}
use Rattle.cc_certificate_text.proofs.LinesRead.{StageOk}
use Rattle.cc_certificate_text.proofs.Certified.{Come, come-nowhere, come-read, next_line_gives, stops_there, bad-there, bad-end, whole-there}
use Rattle.cc_certificate_reading.specs.CertificateViews.{bind_line_of, node_line_of}
use Rattle.cc_certificate_reading.specs.declared.certificate.CertNode.{CertNode}
use Rattle.cc_certificate_reading.specs.declared.read.Heading.{Heading}
use Rattle.cc_certificate_reading.specs.Progress.{heading_lines, IsHeading, StopsAs, ReadsHeading, ReadsNodes}
use Rattle.std.specs.Prelude.{Err, ⊤}
use Rattle.cc_certificate_reading.specs.declared.stop.Stop.{Stop}
use Rattle.cc_certificate_reading.specs.declared.stop.Stop.TheVariants as stops
use Rattle.cc_certificate_reading.specs.declared.certificate.ReadCertError.{ReadCertError}
use Rattle.cc_certificate_reading.specs.declared.certificate.ReadCertError.TheVariants.{NoMemory, BadCert}
use Rattle.cc_certificate_text.specs.Reading.{Found}

-- the lines so far: the opening and the binds
pub record StandsAt (bytes : List ℕ) (names : List (List ℕ)) (binds : List (List ℕ × Ty)) (context : Context) (lines : ℕ) (rest : List ℕ) : Type 0 where
  pub come : Come Start bytes (Opens ∷ map bind_line_of binds) (Binding names context) rest
  pub ok : StageOk (Binding names context)
  pub counted : lines ≡ suc (length binds)
  pub same : length names ≡ length binds
  pub low : lines ≤ 4294967295

length-map : {A B : Type 0} (f : A → B) (xs : List A) → length (map f xs) ≡ length xs
length-map f [] = refl
length-map f (x ∷ xs) = ap suc (length-map f xs)

map-snoc : {A B : Type 0} (f : A → B) (xs : List A) (x : A) → map f xs ++ f x ∷ [] ≡ map f (xs ++ x ∷ [])
map-snoc f [] x = refl
map-snoc f (y ∷ xs) x = ap (λ z. f y ∷ z) (map-snoc f xs x)

pub begin : (bytes rest : List ℕ) → next_line Start bytes ≡ Got Opens rest → StandsAt bytes [] [] [] 1 rest
begin bytes rest h =
    let come = come-read Start bytes [] Start bytes Opens rest (come-nowhere Start bytes) tt h in
    record { come = come.0; ok = come.1; counted = refl; same = refl; low = omega arith }

pub bad_opening : (bytes : List ℕ) (number : ℕ) → next_line Start bytes ≡ Wrong → number ≡ 1 → IsBadLine bytes number
bad_opening [] number h e =
    record { lines = []; fit = tt; rest = []; written = refl; stops = λ whole. whole; place = e }
bad_opening (b ∷ bs) number h e =
    record { lines = []; fit = tt; rest = b ∷ bs; written = refl; stops = stops_there Start (b ∷ bs) tt h some; place = e }
  where
    some : b ∷ bs ≡ [] → ⊥
    some e = cc

module _ (bytes : List ℕ) (names : List (List ℕ)) (binds : List (List ℕ × Ty)) (context : Context) (lines : ℕ) (rest : List ℕ)
    (at : StandsAt bytes names binds context lines rest) where
  pub further : (names' : List (List ℕ)) (binds' : List (List ℕ × Ty)) (context' : Context) (lines' : ℕ) (name : List ℕ) (type : Ty) (behind : List ℕ)
      → next_line (Binding names context) rest ≡ Got (Binds name (type_of type)) behind
      → names' ≡ names ++ name ∷ [] → binds' ≡ binds ++ (name, type) ∷ [] → context' ≡ entry_of (type_of type) ∷ context → lines' ≡ lines + 1 → lines' ≤ 4294967295
      → StandsAt bytes names' binds' context' lines' behind
  further names' binds' context' lines' name type behind h p q r s low =
      let come = come-read Start bytes (Opens ∷ map bind_line_of binds) (Binding names context) rest (Binds name (type_of type)) behind at.come at.ok h in
      let counted = at.counted in
      let same = at.same in
      let there : StandsAt bytes (names ++ name ∷ []) (binds ++ (name, type) ∷ []) (entry_of (type_of type) ∷ context) lines' behind =
      record {
        come = subst (λ l. Come Start bytes (Opens ∷ l) (Binding (names ++ name ∷ []) (entry_of (type_of type) ∷ context)) behind) (map-snoc bind_line_of binds (name, type)) come.0;
        ok = come.1;
        counted = omega (arith, s, counted, length-append binds ((name, type) ∷ []));
        same = omega (arith, same, length-append binds ((name, type) ∷ []), length-append names (name ∷ []));
        low = low;
      } in
      subst (λ n. StandsAt bytes n binds' context' lines' behind) (sym p)
      (subst (λ b. StandsAt bytes (names ++ name ∷ []) b context' lines' behind) (sym q)
      (subst (λ c. StandsAt bytes (names ++ name ∷ []) (binds ++ (name, type) ∷ []) c lines' behind) (sym r) there))

  -- the name is new, so that it is put last
  pub put_last : (name : List ℕ) (type : Ty) (behind : List ℕ) → next_line (Binding names context) rest ≡ Got (Binds name (type_of type)) behind
      → insert_key bytes_eq names name ≡ names ++ name ∷ []
  put_last name type behind h =
      ap (λ b. cond b names (names ++ name ∷ [])) (next_line_gives (Binding names context) rest (Binds name (type_of type)) behind at.ok h).0.1

  pub shorter : (line : Line) (behind : List ℕ) → next_line (Binding names context) rest ≡ Got line behind → length behind < length rest
  shorter line behind h =
      let given = next_line_gives (Binding names context) rest line behind at.ok h in
      omega (arith, ap length given.1, length-append (line_text (Binding names context) line) (10 ∷ behind))

  pub few_names : length names ≤ 4294967296
  few_names = let counted = at.counted in let same = at.same in let low = at.low in omega (arith, counted, same, low)

  pub heading_there : (heading : Heading) (behind : List ℕ) → heading.names ≡ names → heading.binds.items ≡ binds → heading.lines ≡ lines + 1
      → next_line (Binding names context) rest ≡ Got (States (term_of heading.term)) behind → IsHeading bytes heading behind
  heading_there heading behind p q s h =
      let come = come-read Start bytes (Opens ∷ map bind_line_of binds) (Binding names context) rest (States (term_of heading.term)) behind at.come at.ok h in
      let counted = at.counted in
      let same = subst (λ n. Come Start bytes ((Opens ∷ map bind_line_of binds) ++ States (term_of heading.term) ∷ []) (Proving n 0 []) behind) (sym p) come.0 in
      let there = subst (λ b. Come Start bytes ((Opens ∷ map bind_line_of b) ++ States (term_of heading.term) ∷ []) (Proving heading.names 0 []) behind) (sym q) same in
      record {
        fit = there.fit;
        ends = there.ends;
        written = there.written;
        named = subst (AllByRecursion IsName) (sym p) come.1.0;
        apart = subst (IsDistinct bytes_eq) (sym p) come.1.1;
        counted = omega (
          arith,
          s,
          counted,
          ap length q,
          length-map bind_line_of heading.binds.items,
          length-append (Opens ∷ map bind_line_of heading.binds.items) (States (term_of heading.term) ∷ []),
        );
        few = omega (arith, ap length p, few_names);
      }

  pub bad_bind : (number : ℕ) → next_line (Binding names context) rest ≡ Wrong → 0 < length rest → number ≡ lines + 1 → IsBadLine bytes number
  bad_bind number h some e =
      let counted = at.counted in
      bad-there bytes (Opens ∷ map bind_line_of binds) (Binding names context) rest number at.come at.ok h (λ nothing. omega (arith, ap length nothing, some))
      (omega (arith, e, counted, length-map bind_line_of binds))

  pub bad_binds : (number : ℕ) → length rest ≡ 0 → number ≡ lines + 1 → IsBadLine bytes number
  bad_binds number none e =
      let counted = at.counted in
      bad-end bytes (Opens ∷ map bind_line_of binds) (Binding names context) rest number at.come (λ whole. whole) (nothing_left rest none)
      (omega (arith, e, counted, length-map bind_line_of binds))
    where
      nothing_left : (xs : List ℕ) → length xs ≡ 0 → xs ≡ []
      nothing_left [] e = refl
      nothing_left (x ∷ xs) e = absurd (omega arith)

-- why nothing is found
abbrev pub RefusedAs : {A : Type 0} → Stop → Found A → Type 0
RefusedAs stops.Misfit found = found ≡ Wrong
RefusedAs stops.NoMemory found = ⊤

pub opening_refused : (bytes : List ℕ) (stop : Stop) (error : ReadCertError) → RefusedAs stop (next_line Start bytes) → StopsAs stop 0 error
    → ReadsHeading bytes (Err error)
opening_refused bytes stops.Misfit (BadCert line) h e = bad_opening bytes line h (omega (arith, e))
opening_refused bytes stops.Misfit NoMemory h e = tt
opening_refused bytes stops.NoMemory (BadCert line) h e = absurd e
opening_refused bytes stops.NoMemory NoMemory h e = tt

pub begin_with : (bytes : List ℕ) (names : List (List ℕ)) (binds : List (List ℕ × Ty)) (context : Context) (rest : List ℕ)
    → names ≡ [] → binds ≡ [] → context ≡ [] → next_line Start bytes ≡ Got Opens rest → StandsAt bytes names binds context 1 rest
begin_with bytes names binds context rest p q r h =
    subst (λ n. StandsAt bytes n binds context 1 rest) (sym p) (subst (λ b. StandsAt bytes [] b context 1 rest) (sym q)
    (subst (λ c. StandsAt bytes [] [] c 1 rest) (sym r) (begin bytes rest h)))

pub entry_refused : (bytes : List ℕ) (names : List (List ℕ)) (binds : List (List ℕ × Ty)) (context : Context) (lines : ℕ) (rest : List ℕ)
    → StandsAt bytes names binds context lines rest → (stop : Stop) (error : ReadCertError) → 0 < length rest
    → RefusedAs stop (next_line (Binding names context) rest) → StopsAs stop lines error → ReadsHeading bytes (Err error)
entry_refused bytes names binds context lines rest at stops.Misfit (BadCert line) some h e = bad_bind bytes names binds context lines rest at line h some e
entry_refused bytes names binds context lines rest at stops.Misfit NoMemory some h e = tt
entry_refused bytes names binds context lines rest at stops.NoMemory (BadCert line) some h e = absurd e
entry_refused bytes names binds context lines rest at stops.NoMemory NoMemory some h e = tt

pub end_refused : (bytes : List ℕ) (names : List (List ℕ)) (binds : List (List ℕ × Ty)) (context : Context) (lines : ℕ) (rest : List ℕ)
    → StandsAt bytes names binds context lines rest → (error : ReadCertError) → length rest ≡ 0 → StopsAs stops.Misfit lines error
    → ReadsHeading bytes (Err error)
end_refused bytes names binds context lines rest at (BadCert line) none e = bad_binds bytes names binds context lines rest at line none e
end_refused bytes names binds context lines rest at NoMemory none e = tt

-- the lines so far: those of the heading and of the nodes
pub record NodesAt (bytes : List ℕ) (heading : Heading) (nodes : List CertNode) (count : ℕ) (unused : List ℕ) (lines : ℕ) (rest : List ℕ) : Type 0 where
  pub come : Come Start bytes (heading_lines heading ++ map node_line_of nodes) (Proving heading.names count unused) rest
  pub ok : StageOk (Proving heading.names count unused)
  pub counted : lines ≡ length (heading_lines heading) + length nodes

pub begin_nodes : (bytes : List ℕ) (heading : Heading) (rest : List ℕ) → IsHeading bytes heading rest → NodesAt bytes heading [] 0 [] heading.lines rest
begin_nodes bytes heading rest h =
    let whole = sym (append-nil (heading_lines heading)) in
    let come : Come Start bytes (heading_lines heading) (Proving heading.names 0 []) rest = record { fit = h.fit; ends = h.ends; written = h.written } in
    let counted = h.counted in
    record {
      come = subst (λ l. Come Start bytes l (Proving heading.names 0 []) rest) whole come;
      ok = (h.named, h.apart, tt);
      counted = omega (arith, counted);
    }

module _ (bytes : List ℕ) (heading : Heading) (nodes : List CertNode) (count : ℕ) (unused : List ℕ) (lines : ℕ) (rest : List ℕ)
    (at : NodesAt bytes heading nodes count unused lines rest) where
  pub node_further : (nodes' : List CertNode) (count' : ℕ) (unused' : List ℕ) (lines' : ℕ) (node : CertNode) (behind : List ℕ)
      → next_line (Proving heading.names count unused) rest ≡ Got (node_line_of node) behind
      → nodes' ≡ nodes ++ node ∷ [] → count' ≡ count + 1
      → unused' ≡ take (length unused - length node.premises.items) unused ++ count' ∷ [] → lines' ≡ lines + 1
      → NodesAt bytes heading nodes' count' unused' lines' behind
  node_further nodes' count' unused' lines' node behind h p q r s =
      let come = come-read Start bytes (heading_lines heading ++ map node_line_of nodes) (Proving heading.names count unused) rest (node_line_of node) behind at.come at.ok h in
      let counted = at.counted in
      let next : count' ≡ suc count = omega (arith, q) in
      let used : unused' ≡ take (length unused - length node.premises.items) unused ++ suc count ∷ [] = r ∙ ap (λ n. take (length unused - length node.premises.items) unused ++ n ∷ []) next in
      let more : (heading_lines heading ++ map node_line_of nodes) ++ node_line_of node ∷ [] ≡ heading_lines heading ++ map node_line_of (nodes ++ node ∷ []) =
      append_assoc (heading_lines heading) (map node_line_of nodes) (node_line_of node ∷ []) ∙ ap (λ z. heading_lines heading ++ z) (map-snoc node_line_of nodes node) in
      let there : NodesAt bytes heading (nodes ++ node ∷ []) (suc count) (take (length unused - length node.premises.items) unused ++ suc count ∷ []) lines' behind =
      record {
        come = subst (λ l. Come Start bytes l (Proving heading.names (suc count) (take (length unused - length node.premises.items) unused ++ suc count ∷ [])) behind) more come.0;
        ok = come.1;
        counted = omega (arith, s, counted, length-append nodes (node ∷ []));
      } in
      subst (λ n. NodesAt bytes heading n count' unused' lines' behind) (sym p)
      (subst (λ c. NodesAt bytes heading (nodes ++ node ∷ []) c unused' lines' behind) (sym next)
      (subst (λ u. NodesAt bytes heading (nodes ++ node ∷ []) (suc count) u lines' behind) (sym used) there))

  pub node_shorter : (line : Line) (behind : List ℕ) → next_line (Proving heading.names count unused) rest ≡ Got line behind → length behind < length rest
  node_shorter line behind h =
      let given = next_line_gives (Proving heading.names count unused) rest line behind at.ok h in
      omega (arith, ap length given.1, length-append (line_text (Proving heading.names count unused) line) (10 ∷ behind))

  counted_lines : (number : ℕ) → number ≡ lines + 1 → number ≡ suc (length (heading_lines heading ++ map node_line_of nodes))
  counted_lines number e =
      let counted = at.counted in
      omega (arith, e, counted, length-append (heading_lines heading) (map node_line_of nodes), length-map node_line_of nodes)

  pub bad_node : (number : ℕ) → next_line (Proving heading.names count unused) rest ≡ Wrong → 0 < length rest → number ≡ lines + 1 → IsBadLine bytes number
  bad_node number h some e =
      bad-there bytes (heading_lines heading ++ map node_line_of nodes) (Proving heading.names count unused) rest number at.come at.ok h
      (λ nothing. omega (arith, ap length nothing, some)) (counted_lines number e)

  nothing_left : (xs : List ℕ) → length xs ≡ 0 → xs ≡ []
  nothing_left [] e = refl
  nothing_left (x ∷ xs) e = absurd (omega arith)

  pub bad_nodes : (number : ℕ) → length rest ≡ 0 → (length unused ≡ 1 → ⊥) → number ≡ lines + 1 → IsBadLine bytes number
  bad_nodes number none several e =
      bad-end bytes (heading_lines heading ++ map node_line_of nodes) (Proving heading.names count unused) rest number at.come several (nothing_left rest none)
      (counted_lines number e)

  pub all_nodes : length rest ≡ 0 → length unused ≡ 1 → IsCertificate bytes (heading_lines heading ++ map node_line_of nodes)
  all_nodes none one =
      whole-there bytes (heading_lines heading ++ map node_line_of nodes) (Proving heading.names count unused) rest at.come one (nothing_left rest none)

pub begin_nodes_with : (bytes : List ℕ) (heading : Heading) (nodes : List CertNode) (unused rest : List ℕ) → nodes ≡ [] → unused ≡ []
    → IsHeading bytes heading rest → NodesAt bytes heading nodes 0 unused heading.lines rest
begin_nodes_with bytes heading nodes unused rest p q h =
    subst (λ n. NodesAt bytes heading n 0 unused heading.lines rest) (sym p)
    (subst (λ u. NodesAt bytes heading [] 0 u heading.lines rest) (sym q) (begin_nodes bytes heading rest h))

pub node_refused : {A : Type 0} (view : A → List CertNode) (bytes : List ℕ) (heading : Heading) (nodes : List CertNode) (count : ℕ) (unused : List ℕ) (lines : ℕ) (rest : List ℕ)
    → NodesAt bytes heading nodes count unused lines rest → (stop : Stop) (error : ReadCertError) → 0 < length rest
    → RefusedAs stop (next_line (Proving heading.names count unused) rest) → StopsAs stop lines error → ReadsNodes view bytes heading (Err error)
node_refused view bytes heading nodes count unused lines rest at stops.Misfit (BadCert line) some h e = bad_node bytes heading nodes count unused lines rest at line h some e
node_refused view bytes heading nodes count unused lines rest at stops.Misfit NoMemory some h e = tt
node_refused view bytes heading nodes count unused lines rest at stops.NoMemory (BadCert line) some h e = absurd e
node_refused view bytes heading nodes count unused lines rest at stops.NoMemory NoMemory some h e = tt

pub several_refused : {A : Type 0} (view : A → List CertNode) (bytes : List ℕ) (heading : Heading) (nodes : List CertNode) (count : ℕ) (unused : List ℕ) (lines : ℕ) (rest : List ℕ)
    → NodesAt bytes heading nodes count unused lines rest → (error : ReadCertError) → length rest ≡ 0 → (length unused ≡ 1 → ⊥)
    → StopsAs stops.Misfit lines error → ReadsNodes view bytes heading (Err error)
several_refused view bytes heading nodes count unused lines rest at (BadCert line) none several e = bad_nodes bytes heading nodes count unused lines rest at line none several e
several_refused view bytes heading nodes count unused lines rest at NoMemory none several e = tt
