mod Feeds
mod Reports
