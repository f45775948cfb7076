-- How a reply is spelled, which is the answer line without its LF.
use Rattle.std.specs.Prelude.{ℕ, ℤ, List, [], ◌∷◌, ◌++◌, codes, pos, neg_ℤ}
use Rattle.bike_fixed.specs.declared.cents.TheConstants.{GREATEST_FARE}
use Rattle.bike_fields.specs.declared.numbers.TheConstants.{GREATEST_NUMBER, GREATEST_SERIAL}
use Rattle.bike_texts.specs.Fields.{Field, Number, Signed, Fixed, AreGood, fields_text}
use Rattle.bike_commands.specs.declared.reply.Reply.{Reply}
use Rattle.bike_commands.specs.declared.reply.Reply.TheVariants.{Done, Balance, Started, Ended, Ordered, Refused}
use Rattle.bike_commands.specs.Refusals.{number_of, name_of}

-- each reply's word ..
abbrev pub reply_word : Reply → List ℕ
reply_word Done = codes "ok"
reply_word (Balance balance) = codes "balance"
reply_word (Started rental bike) = codes "rental"
reply_word (Ended fare balance) = codes "fare"
reply_word (Ordered order) = codes "order"
reply_word (Refused refusal) = codes "refused"

-- any number of 64 bits
abbrev pub Any : ℤ → Field
Any = Signed (neg_ℤ (pos 9223372036854775808)) (pos 9223372036854775807)

-- .. and its fields: fares and balances in hundredths, the number and name of a refusal
abbrev pub reply_fields : Reply → List Field
reply_fields Done = []
reply_fields (Balance balance) = Any balance ∷ []
reply_fields (Started rental bike) = Number 1 GREATEST_SERIAL rental ∷ Number 1 GREATEST_NUMBER bike ∷ []
reply_fields (Ended fare balance) = Signed (pos 0) GREATEST_FARE fare ∷ Any balance ∷ []
reply_fields (Ordered order) = Number 1 GREATEST_SERIAL order ∷ []
reply_fields (Refused refusal) = Number 1 39 (number_of refusal) ∷ Fixed (name_of refusal) ∷ []

-- the numbers keep their bounds, as those of every reply of the program do
abbrev pub IsReply : Reply → Type 0
IsReply r = AreGood (reply_fields r)

-- the one text that spells the reply
abbrev pub reply_text : Reply → List ℕ
reply_text r = reply_word r ++ fields_text (reply_fields r)
