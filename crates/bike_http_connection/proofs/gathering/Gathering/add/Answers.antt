use Rattle.std.proofs.Common.{◌≡◌, ℕ, List, true, refl, ap, subst, sym, Bool, ◌||◌, ◌&&◌}
use Rattle.bike_http_connection.specs.Awaiting.{Awaits, ShowsFeeds, is_line_byte}
use Rattle.std.specs.List.{list_all}
use Rattle.bike_http_connection.proofs.Awaiting.{awaits_anyway, awaits_added, feeds_added, blank_anyway, blank_added}
use Rattle.bike_http_connection.proofs.gathering.Gathering.add.Goals as goal

pub invariant_of-self : goal.invariant_of-self
invariant_of-self c =
    let it = c.args.self.now in
    let came = it.has_line_end || c.contains.result in
    let blank = it.is_blank && c.are_line_ends.result in
    let same = sym c.reserve_exact.ensures.items in
    record {
      awaits = subst (λ (l : List ℕ). Awaits it.stage came l) same
          (awaits_anyway it.stage it.has_line_end came c.contains.result it.bytes.items it.awaits refl);
      feeds = subst (λ (l : List ℕ). ShowsFeeds it.stage l) same it.feeds;
      blank = subst (λ (l : List ℕ). blank ≡ true → list_all is_line_byte l ≡ true) same
          (blank_anyway it.is_blank blank c.are_line_ends.result it.bytes.items it.blank refl);
    }

pub invariant_of-self-2 : goal.invariant_of-self-2
invariant_of-self-2 c =
    let it = c.args.self.now in
    record {
      awaits = awaits_added c.extend_from_slice.result it.stage it.has_line_end _ it.bytes.items c.reserve_exact.new.self.items c.args.bytes.now
          c.extend_from_slice.new.self.items it.awaits (ap (λ (b : Bool). it.has_line_end || b) c.contains.ensures.value) c.reserve_exact.ensures.items
          c.extend_from_slice.ensures.items;
      feeds = feeds_added c.extend_from_slice.result it.stage it.bytes.items c.reserve_exact.new.self.items c.args.bytes.now
          c.extend_from_slice.new.self.items it.feeds c.reserve_exact.ensures.items c.extend_from_slice.ensures.items;
      blank = blank_added c.extend_from_slice.result it.is_blank _ it.bytes.items c.reserve_exact.new.self.items c.args.bytes.now
          c.extend_from_slice.new.self.items it.blank (ap (λ (b : Bool). it.is_blank && b) c.are_line_ends.ensures) c.reserve_exact.ensures.items
          c.extend_from_slice.ensures.items;
    }
