-- A path that takes the route of a feed, or that of the history, begins as all of these do.
use Rattle.std.proofs.Common.{◌≡◌, ℕ, zero, suc, List, [], ◌∷◌, ◌++◌, Bool, true, false, ◌==◌, not, ltb, ◌||◌, Option, Some, None, option_map, codes, length, take, drop, refl, sym, ap, ◌∙◌, subst, arith}
use Rattle.std.proofs.Common.{append_assoc, take-append-drop}
use Rattle.std.specs.List.{list_all, position_or_len}
use Rattle.matchit.proofs.OnLiterals.{matchit_on_literals}
use Rattle.matchit.specs.Router.{RouteOf}
use Rattle.matchit.specs.Seek.{same_text, first}
use Rattle.std.specs.Cmp.Lexicographic.{bytes_decides}
use Rattle.bike_feed_texts.specs.declared.feed.Feed.{Feed}
use Rattle.bike_http_head.specs.Table.{table, routes, with_route, route_at, path_of}
use Rattle.bike_http_head.specs.declared.routes.Route.{Route}
use Rattle.bike_http_head.specs.declared.routes.Route.TheVariants as route
use Rattle.bike_http_head.proofs.Fits.{IsBytes, Matches, seek_found}
use Rattle.bike_http_head.proofs.Parts.{match_text}
use Rattle.bike_http_head.proofs.Taken.{row_has}

abbrev is_feed : Route → Bool
is_feed (route.Publish feed) = true
is_feed _ = false

abbrev is_history : Route → Bool
is_history route.History = true
is_history _ = false

-- the pattern of such a route begins so
abbrev is_placed : (Route → Bool) → List ℕ → List ℕ × RouteOf Route → Bool
is_placed test front row = not (test row.1.value) || same_text (take (length front) row.0) front

placed_feeds : list_all (is_placed is_feed (codes "/gbfs/")) table ≡ true
unfolding matchit_on_literals table routes with_route
placed_feeds = refl

placed_history : list_all (is_placed is_history (codes "/history/")) table ≡ true
unfolding matchit_on_literals table routes with_route
placed_history = refl

first_of : (path : List ℕ) (value : Route) → (o : Option (RouteOf Route)) → first table path ≡ o → option_map (λ r. r.value) o ≡ Some value
    → (r : RouteOf Route) × (first table path ≡ Some r) × (r.value ≡ value)
first_of path value None e is = absurd (cc)
first_of path value (Some r) e is = (r, e, cc)

take_bytes : (n : ℕ) (xs : List ℕ) → IsBytes xs → IsBytes (take n xs)
take_bytes zero xs bytes i = omega arith
take_bytes (suc n) [] bytes i = omega arith
take_bytes (suc n) (x ∷ xs) bytes zero = bytes 0
take_bytes (suc n) (x ∷ xs) bytes (suc i) = take_bytes n xs (λ j. bytes (suc j)) i

module _ (test : Route → Bool) (front : List ℕ) (small : list_all (λ b. ltb b 256) front ≡ true) (placed : list_all (is_placed test front) table ≡ true) where
  begins : (t : List ℕ) (r : RouteOf Route) → test r.value ≡ true → is_placed test front (t, r) ≡ true → t ≡ front ++ drop (length front) t
  begins t r is placed =
      let text : same_text (take (length front) t) front ≡ true = rw is at placed in
      sym (take-append-drop (length front) t) ∙ ap (λ (l : List ℕ). l ++ drop (length front) t) ((bytes_decides (take (length front) t) front).0 text)

  -- the path begins so
  path_begins : (path : List ℕ) (value : Route) → IsBytes path → test value ≡ true → route_at path ≡ Some value → (rest : List ℕ) × (path ≡ front ++ rest)
  path_begins path value bytes is takes =
      let (r, found, same) = first_of path value (first table path) refl takes in
      let (t, has, fits) = seek_found 0 table path r bytes found in
      let form = begins t r (ap test same ∙ is) (row_has (is_placed test front) table t r placed has) in
      let (rest, whole, more) = match_text front (drop (length front) t) path small (subst (λ (l : List ℕ). Matches l path) form fits) in
      (rest, whole)

  -- .. and so does the target
  target_begins : (target : List ℕ) (value : Route) → IsBytes target → test value ≡ true → route_at (path_of target) ≡ Some value → (rest : List ℕ) × (target ≡ front ++ rest)
  target_begins target value bytes is takes =
      let n : ℕ = position_or_len (λ b. b == 63) target in
      let (rest, whole) = path_begins (path_of target) value (take_bytes n target bytes) is takes in
      (rest ++ drop n target, sym (take-append-drop n target) ∙ ap (λ (l : List ℕ). l ++ drop n target) whole ∙ append_assoc front rest (drop n target))

pub feed_target : (target : List ℕ) (feed : Feed) → IsBytes target → route_at (path_of target) ≡ Some (route.Publish feed) → (rest : List ℕ) × (target ≡ codes "/gbfs/" ++ rest)
feed_target target feed bytes takes = target_begins is_feed (codes "/gbfs/") refl placed_feeds target (route.Publish feed) bytes refl takes

pub history_target : (target : List ℕ) → IsBytes target → route_at (path_of target) ≡ Some route.History → (rest : List ℕ) × (target ≡ codes "/history/" ++ rest)
history_target target bytes takes = target_begins is_history (codes "/history/") refl placed_history target route.History bytes refl takes
