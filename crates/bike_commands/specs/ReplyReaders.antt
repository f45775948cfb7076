-- What is read of a reply, a block for each kind.
use Rattle.std.specs.Prelude.{ℕ, List, Option, Some, None, if◌then◌else◌, codes}
use Rattle.std.specs.Str.{bytes_eq}
use Rattle.bike_fixed.specs.Whole.{number_of}
use Rattle.bike_fields.specs.declared.numbers.TheConstants.{GREATEST_NUMBER, GREATEST_SERIAL}
use Rattle.bike_texts.specs.Parts.{Parts}
use Rattle.bike_texts.specs.Reading.{◌>>=◌, part_at, field_at, no_more, exactly, i64_of, fare_of}
use Rattle.bike_commands.specs.declared.reply.Reply.{Reply}
use Rattle.bike_commands.specs.declared.reply.Reply.TheVariants.{Done, Balance, Started, Ended, Ordered, Refused}
use Rattle.bike_commands.specs.declared.refusal.Refusal.{Refusal}
use Rattle.bike_commands.specs.Refusals.{refusal_of, name_of}

unfoldable pub done_at : Parts → Option Reply
done_at ps = do
  end ← no_more ps
  Some Done

unfoldable pub balance_at : Parts → Option Reply
balance_at ps = do
  balance ← field_at i64_of ps
  end ← no_more balance.1
  Some (Balance balance.0)

unfoldable pub started_at : Parts → Option Reply
started_at ps = do
  rental ← field_at (number_of 1 GREATEST_SERIAL) ps
  bike ← field_at (number_of 1 GREATEST_NUMBER) rental.1
  end ← no_more bike.1
  Some (Started rental.0 bike.0)

unfoldable pub ended_at : Parts → Option Reply
ended_at ps = do
  fare ← field_at fare_of ps
  balance ← field_at i64_of fare.1
  end ← no_more balance.1
  Some (Ended fare.0 balance.0)

unfoldable pub ordered_at : Parts → Option Reply
ordered_at ps = do
  order ← field_at (number_of 1 GREATEST_SERIAL) ps
  end ← no_more order.1
  Some (Ordered order.0)

-- the refusal of the number, where the next part is its name
unfoldable pub named_at : Refusal → Parts → Option Reply
named_at refusal ps = do
  name ← field_at (exactly (name_of refusal)) ps
  end ← no_more name.1
  Some (Refused refusal)

unfoldable pub refused_at : Parts → Option Reply
refused_at ps = do
  number ← field_at (number_of 1 39) ps
  refusal ← refusal_of number.0
  named_at refusal number.1

unfoldable pub reply_by : List ℕ → Parts → Option Reply
reply_by word ps =
    if bytes_eq word (codes "ok") then done_at ps else (
    if bytes_eq word (codes "balance") then balance_at ps else (
    if bytes_eq word (codes "rental") then started_at ps else (
    if bytes_eq word (codes "fare") then ended_at ps else (
    if bytes_eq word (codes "order") then ordered_at ps else (
    if bytes_eq word (codes "refused") then refused_at ps else None)))))

unfoldable pub reply_at : Parts → Option Reply
reply_at ps = do
  word ← part_at ps
  reply_by word.0 word.1
