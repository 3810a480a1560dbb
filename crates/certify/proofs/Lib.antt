mod Exact
