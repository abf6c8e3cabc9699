-- What the entry for C that hands out the table of exchange times answers (document 02, E4). Assumes nothing: these are definitions.
use Rattle.std.specs.Prelude.{ℕ, cond, ◌&&◌, leb, eqb}
use Rattle.superframe_model.specs.Exchange.{exchange}

-- X of m octets, 6 to 127, acknowledged where ACK is 1; 0, which no exchange lasts, for any other M or ACK
unfoldable pub exchange_asked : ℕ → ℕ → ℕ
exchange_asked m ack = cond (leb 6 m && leb m 127 && leb ack 1) (exchange m (eqb ack 1)).0 0
