-- What a cursor has still to read.
use Rattle.std.specs.Prelude.{ℕ, List}
use Rattle.fields.specs.declared.cursor.Cursor.{Cursor}
use Rattle.fields.specs.Fields.{Field, fields_from}

abbrev pub line_of : Cursor → List ℕ
line_of c = c.line.now

abbrev pub left : Cursor → List Field
left c = fields_from (line_of c) c.at
