-- The times since when connections are idle, with one connection more.
use Rattle.std.proofs.Common.{◌≡◌, ◌∙◌, ◌<◌, ◌+◌, ◌++◌, ℕ, List, [], ◌∷◌, Option, ap, get_or, length, map, sym, take}
use Rattle.std.proofs.lemmas.List.{map_more}
use Rattle.serve_loop.specs.Earliest.{IsLeast}
use Rattle.serve_loop.specs.Idle.{idle_since}
use Rattle.serve_loop.specs.declared.connection.Connection.{Connection}

module _ (connections : List Connection) (k : ℕ) (d : Connection) (since : Option ℕ) (lt : k < length connections)
    (is : since ≡ idle_since (get_or connections k d)) where
  -- the times so far have one more, which is that of the connection
  one_more : map idle_since (take (k + 1) connections) ≡ map idle_since (take k connections) ++ since ∷ []
  one_more =
      let before = map idle_since (take k connections) in
      map_more idle_since connections k d lt
      ∙ ap (λ s. before ++ s ∷ []) (sym is)

  -- so the earliest of these is the earliest of the times so far
  pub least_more : (found : Option (ℕ × ℕ)) → IsLeast (map idle_since (take k connections) ++ since ∷ []) found
      → IsLeast (map idle_since (take (k + 1) connections)) found
  least_more found least = rw one_more least
