use Rattle.std.proofs.Common.{◌∙◌}
use Rattle.rev_import.proofs.Rows.{adds_row, crawl_row}
use Rattle.rev_import.proofs.writing.put_crawl.Goals as goal

pub returns : goal.returns
returns g c =
    adds_row c.put_words.result _ _ _ _ c.put_words.ensures (crawl_row _ _ _ _ c.ranges.class.fits (c.as_bytes.ensures.value ∙ c.format.ensures.text) c.queue_name.ensures)
