use Rattle.rev_script.proofs.lines.plain_line.Goals as goal

pub returns-in-Retrieval : goal.returns-in-Retrieval
returns-in-Retrieval g c = rw c.in-Retrieval.is c.retrieval_line.ensures

pub returns-in-Update : goal.returns-in-Update
returns-in-Update g c = rw c.in-Update.is c.update_line.ensures

pub returns-in-Query : goal.returns-in-Query
returns-in-Query g c = rw c.in-Query.is c.query_line.ensures

pub returns-in-Bookmark : goal.returns-in-Bookmark
returns-in-Bookmark g c = rw c.in-Bookmark.is c.bookmark_line.ensures
