-- Writes that lead one after the other.
use Rattle.std.proofs.Common.{◌≡◌, List, [], ◌∷◌, ◌++◌, refl, ap, ◌∙◌}
use Rattle.bike_operator.specs.Operator.{Operator}
use Rattle.bike_book.specs.Tables.{Tables}
use Rattle.bike_book.specs.Stored.{Listed, IsListing}
use Rattle.bike_book.specs.Writes.{RowWrite, tables_after, tables_after_all}
use Rattle.bike_book.specs.Between.{tables_between, Leads}

pub leads_none : (s : Operator) (m : Listed) → IsListing s m → Leads [] s m s m
leads_none s m listing = record { leads = refl; listing = listing }

after_both : (ws vs : List RowWrite) (t : Tables) → tables_after_all (ws ++ vs) t ≡ tables_after_all vs (tables_after_all ws t)
after_both [] vs t = refl
after_both (w ∷ ws) vs t = after_both ws vs (tables_after w t)

pub leads_then : (ws vs : List RowWrite) (s n o : Operator) (m w v : Listed) → Leads ws s m n w → Leads vs n w o v → Leads (ws ++ vs) s m o v
leads_then ws vs s n o m w v a b = record { leads = after_both ws vs (tables_between s m) ∙ ap (tables_after_all vs) a.leads ∙ b.leads; listing = b.listing }
