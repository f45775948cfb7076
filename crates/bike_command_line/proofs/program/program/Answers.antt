use Rattle.std.proofs.Common.{codes}
use Rattle.bike_command_line.specs.Program.{day_word, history_word, named_word, on_file, program, serve_word}
use Rattle.bike_command_line.proofs.Building.{top_is}
use Rattle.bike_command_line.proofs.program.program.Goals as goal

pub returns : goal.returns
unfolding program
returns c =
    let init = c.with_word-program.ensures _ (on_file (codes "init")) (top_is _ _ c.new.ensures.app c.no_binary_name-program.ensures) c.on_file.ensures.app c.on_file.ensures.local in
    let check = c.with_word-program-2.ensures _ (on_file (codes "check")) init c.on_file-2.ensures.app c.on_file-2.ensures.local in
    let raise = c.with_word-program-3.ensures _ (on_file (codes "raise")) check c.on_file-3.ensures.app c.on_file-3.ensures.local in
    let lines = c.with_word-program-4.ensures _ (on_file (codes "lines")) raise c.on_file-4.ensures.app c.on_file-4.ensures.local in
    let feed = c.with_word-program-5.ensures _ (named_word (codes "feed")) lines c.named_word.ensures.app c.named_word.ensures.local in
    let day = c.with_word-program-6.ensures _ day_word feed c.day_word.ensures.app c.day_word.ensures.local in
    let history = c.with_word-program-7.ensures _ history_word day c.history_word.ensures.app c.history_word.ensures.local in
    let stations = c.with_word-program-8.ensures _ (named_word (codes "import")) history c.named_word-2.ensures.app c.named_word-2.ensures.local in
    c.with_word.ensures _ serve_word stations c.serve_word.ensures.app c.serve_word.ensures.local
