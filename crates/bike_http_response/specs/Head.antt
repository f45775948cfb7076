-- The head of an answer (RFC 9112, section 4).
use Rattle.std.specs.Prelude.{ℕ, List, [], ◌∷◌, ◌++◌, codes, decimal, Option, Some, None}
use Rattle.bike_http_head.specs.declared.rejection.Allow.{Allow}
use Rattle.bike_http_head.specs.declared.rejection.Allow.TheVariants.{Get, Post}
use Rattle.bike_http_response.specs.declared.status.Status.{Status}
use Rattle.bike_http_response.specs.Status.{code_of, reason_of}

abbrev pub crlf : List ℕ
crlf = 13 ∷ 10 ∷ []

abbrev pub allow_line : Option Allow → List ℕ
allow_line None = []
allow_line (Some Get) = codes "Allow: GET" ++ crlf
allow_line (Some Post) = codes "Allow: POST" ++ crlf

-- the lines up to the length, and those behind it
abbrev pub type_lines : List ℕ
type_lines = crlf ++ codes "Content-Type: application/json" ++ crlf ++ codes "Content-Length: "

abbrev pub close_lines : List ℕ
close_lines = crlf ++ codes "Connection: close" ++ crlf

-- the status line, the fields and the empty line of an answer whose body has that length
unfoldable pub head_text : Status → Option Allow → ℕ → List ℕ
head_text status allow length =
    codes "HTTP/1.1 " ++ decimal (code_of status) ++ codes " " ++ reason_of status ++ type_lines ++ decimal length
    ++ close_lines ++ allow_line allow ++ crlf
