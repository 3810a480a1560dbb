-- The text of the lines of a workload, in pieces.
use Rattle.std.proofs.Common.{◌≡◌, ◌∙◌, ℕ, suc, ◌-◌, ◌≤◌, List, [], ◌∷◌, ◌++◌, map, codes, ap, arith, append_assoc}
use Rattle.std.proofs.lemmas.Grind.{flat_map-append}
use Rattle.std.specs.List.{flat_map, range_with_len}
use Rattle.cc_workload.specs.Workloads.{module_name}
use Rattle.cc_workload_outputs.specs.WorkloadLines.{put_line, check_lines, run_lines, workload_lines}

module _ (line : List ℕ → List ℕ) where
  pieces : (a c d r : List (List ℕ)) (p q : List ℕ)
      → flat_map line (a ++ p ∷ c ++ q ∷ d ++ r)
      ≡ flat_map line a ++ (line p ++ (flat_map line c ++ (line q ++ (flat_map line d ++ flat_map line r))))
  pieces a c d r p q =
      let P : List (List ℕ) → List ℕ = flat_map line in
      let y : List ℕ = P a ++ (line p ++ P c) in
      flat_map-append line ((a ++ (p ∷ c)) ++ (q ∷ d)) r
      ∙ ap (λ t. t ++ P r) (flat_map-append line (a ++ (p ∷ c)) (q ∷ d) ∙ ap (λ t. t ++ (line q ++ P d)) (flat_map-append line a (p ∷ c)))
      ∙ append_assoc y (line q ++ P d) (P r)
      ∙ append_assoc (P a) (line p ++ P c) ((line q ++ P d) ++ P r)
      ∙ ap (λ t. P a ++ t) (append_assoc (line p) (P c) ((line q ++ P d) ++ P r))
      ∙ ap (λ t. P a ++ (line p ++ (P c ++ t))) (append_assoc (line q) (P d) (P r))

  -- all lines, where the puts of the chain are given
  pub workload_pieces : (n : ℕ)
      → flat_map line (workload_lines n)
      ≡ flat_map line (map (λ k. put_line (module_name k)) (range_with_len 1 n))
      ++ (line (put_line (codes "app")) ++ (flat_map line (check_lines n)
      ++ (line (put_line (module_name 1)) ++ (flat_map line (check_lines n) ++ flat_map line (run_lines n)))))
  workload_pieces n =
      pieces (map (λ k. put_line (module_name k)) (range_with_len 1 n)) (check_lines n) (check_lines n) (run_lines n) (put_line (codes "app"))
      (put_line (module_name 1))

  -- these puts are the first, and those behind it
  pub first_put : (n : ℕ) → 1 ≤ n
      → flat_map line (map (λ k. put_line (module_name k)) (range_with_len 1 n))
      ≡ line (put_line (module_name 1)) ++ flat_map line (map (λ k. put_line (module_name k)) (range_with_len 2 (n - 1)))
  first_put n some =
      let same : n ≡ suc (n - 1) = omega arith in ap (λ m. flat_map line (map (λ k. put_line (module_name k)) (range_with_len 1 m))) same

-- a line of a module, in the pieces in which a reply writes it
pub ok_pieces : (name : List ℕ) → codes "  " ++ (name ++ codes " " ++ codes "ok") ≡ codes "  " ++ name ++ codes " ok"
ok_pieces name = ap (λ t. codes "  " ++ t) (append_assoc name (codes " ") (codes "ok"))
